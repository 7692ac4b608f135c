-- The first live member of a group, in the form that the proofs use.
use Rattle.std.proofs.Common.{◌≡◌, ℕ, ◌<◌, true, false, refl, sym, ◌∙◌, arith, Option, Some, None, unwrap_or, le-leb}
use Rattle.std.proofs.lemmas.Bool.{true≢false, false_from_ne_true}
use Rattle.ftc_ring.specs.Ring.{apart, IsRing}
use Rattle.ftc_ring.specs.Live.{IsFirstLive, first_live_of}
use Rattle.ftc_ring.proofs.Nearest.{first_found, first_none}
use Rattle.ftc_protocol.specs.Setting.{Setting, servers, shape, is_member}
use Rattle.ftc_protocol.specs.State.{ChainState}
use Rattle.ftc_protocol.specs.Moment.{first_live}
use Rattle.ftc_protocol.proofs.Premises.{IsAdmissible}

-- k is the first live member of group j
pub record IsFirst (c : Setting) (s : ChainState) (j k : ℕ) : Type 0 where
  pub inside : k < servers c
  pub up : s.up k ≡ true
  pub member : is_member c j k ≡ true
  pub first : (i : ℕ) → i < servers c → apart (servers c) j i < apart (servers c) j k → s.up i ≡ false

pub first_by : (c : Setting) (s : ChainState) (j k : ℕ) → IsFirstLive (shape c) s.up j k → IsFirst c s j k
first_by c s j k is = record {
  inside = is.within;
  up = is.up;
  member = le-leb _ _ is.member;
  first = λ i il less. false_from_ne_true (s.up i) (λ live. let le = is.nearest i il live in absurd (omega arith));
}

pub first_there : (c : Setting) (s : ChainState) → IsRing (shape c) → IsAdmissible c s.up → (j : ℕ) → j < servers c →
    IsFirst c s j (first_live c s j)
first_there c s ring admissible j jl = found (first_live_of (shape c) s.up j) refl
  where
    found : (o : Option ℕ) → first_live_of (shape c) s.up j ≡ o → IsFirst c s j (unwrap_or o j)
    found None is =
        let z = admissible j jl in
        absurd (true≢false (sym z.2 ∙ (((first_none (shape c) s.up j ring jl).0 is).each z.0 z.1 z.3)))
    found (Some k) is = first_by c s j k ((first_found (shape c) s.up j k ring jl).0 is)
