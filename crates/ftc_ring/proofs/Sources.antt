-- From which live server a new server gets the list of a group.
use Rattle.std.proofs.Common.{◌≡◌, ◌≢◌, ℕ, Bool, ◌+◌, ◌<◌, ◌≤◌, true, false, Some, None, inl, inr, refl, sym, ap, ◌∙◌}
use Rattle.std.proofs.Common.{arith, nat_le, leb-true, leb-false, if◌then◌else◌}
use Rattle.std.proofs.lemmas.Bool.{true≢false, cases_eq}
use Rattle.std.proofs.lemmas.Bool.Decides.{nat_tests}
use Rattle.ftc_ring.specs.Ring.{RingShape, apart, IsMember}
use Rattle.ftc_ring.specs.Live.{IsLive, IsDown, IsAdmissible, IsLiveBefore, IsLiveAfter, IsAlone, IsBetween}
use Rattle.ftc_ring.specs.Live.{live_before_of, live_after_of, source_between, source_in, source_of}
use Rattle.ftc_ring.proofs.Nearest.{before_found, before_none, after_found, after_none}

pub not_alone : (ring : RingShape) (live : ℕ → Bool) (k : ℕ) → k < ring.servers → IsDown live k →
    IsAdmissible ring live → IsAlone ring.servers live k → ⊥
not_alone ring live k lk dead all alone =
    let alive = all.each k lk in
    elim (cases_eq alive.server k) [
      | inl same ↦ true≢false (sym alive.up ∙ ap live same ∙ dead)
      | inr differs ↦ true≢false (sym alive.up ∙ alone alive.server alive.within differs)
    ]

live_or_down : (live : ℕ → Bool) (k x : ℕ) → IsDown live k → IsLive live x → x ≢ k
live_or_down live k x dead up same = true≢false (sym up ∙ ap live same ∙ dead)

pub after_is_first : (n : ℕ) (live : ℕ → Bool) (k r s j x : ℕ) → k < n → IsDown live k → IsLiveBefore n live k r →
    IsLiveAfter n live k s → j < n → IsBetween n r s j → x < n → IsLive live x → apart n j s ≤ apart n j x
after_is_first n live k r s j x lk dead before after lj between lx up =
    let far = before.nearest x lx (live_or_down live k x dead up) up in
    let near = after.nearest x lx (live_or_down live k x dead up) up in
    grind (arith, nat_tests)

pub after_is_member : (ring : RingShape) (live : ℕ → Bool) (k r s j : ℕ) → k < ring.servers → IsDown live k →
    IsLiveBefore ring.servers live k r → IsLiveAfter ring.servers live k s → IsAdmissible ring live → j < ring.servers →
    IsBetween ring.servers r s j → IsMember ring j s
after_is_member ring live k r s j lk dead before after all lj between =
    let alive = all.each j lj in
    let first = after_is_first ring.servers live k r s j alive.server lk dead before after lj between alive.within
    alive.up in
    let member = alive.member in
    omega arith

pub from_before : (n : ℕ) (live : ℕ → Bool) (k r s j : ℕ) → k < n → IsDown live k → IsLiveBefore n live k r →
    IsLiveAfter n live k s → j < n → apart n r k ≤ apart n j k → apart n j r + apart n r k ≡ apart n j k
from_before n live k r s j lk dead before after lj within = let lr = before.within in grind (arith, nat_tests)

pub from_after : (n : ℕ) (live : ℕ → Bool) (k r s j : ℕ) → k < n → IsDown live k → IsLiveBefore n live k r →
    IsLiveAfter n live k s → j < n → apart n j k < apart n r k → IsBetween n r s j
from_after n live k r s j lk dead before after lj within =
    let far = before.nearest s after.within after.other after.up in
    let near = after.nearest r before.within before.other before.up in
    grind (arith, nat_tests)

-- what a source has to be
abbrev pub IsSource : RingShape → (ℕ → Bool) → ℕ → ℕ → Type 0
IsSource ring live j x = (x < ring.servers) × IsLive live x × IsMember ring j x

pub is_source : (ring : RingShape) (live : ℕ → Bool) (k r s j : ℕ) → k < ring.servers → IsDown live k →
    IsLiveBefore ring.servers live k r → IsLiveAfter ring.servers live k s → IsAdmissible ring live → j < ring.servers →
    IsMember ring j k → IsSource ring live j (source_between ring.servers r s j k)
is_source ring live k r s j lk dead before after all lj member =
    elim (nat_le (apart ring.servers r k) (apart ring.servers j k)) as
    (λ t. nat_le (apart ring.servers r k) (apart ring.servers j k) ≡ t →
    IsSource ring live j (if t then r else s)) [
      | true ↦ λ e.
          let way = from_before ring.servers live k r s j lk dead before after lj
          (leb-true (apart ring.servers r k) (apart ring.servers j k) e) in
          (before.within, before.up, omega arith)
      | false ↦ λ e.
          let between = from_after ring.servers live k r s j lk dead before after lj
          (leb-false (apart ring.servers r k) (apart ring.servers j k) e) in
          (after.within, after.up, after_is_member ring live k r s j lk dead before after all lj between)
    ] refl

pub source_found : (ring : RingShape) (live : ℕ → Bool) (k j : ℕ) → k < ring.servers → IsDown live k →
    IsAdmissible ring live → j < ring.servers → IsMember ring j k → (x : ℕ) × (source_of ring.servers live j k ≡ Some x)
    × (x < ring.servers) × IsLive live x × IsMember ring j x
source_found ring live k j lk dead all lj member =
    elim (live_before_of ring.servers live k) as (λ b. live_before_of ring.servers live k ≡ b →
    (x : ℕ) × (source_in ring.servers j k b (live_after_of ring.servers live k) ≡ Some x) × (x < ring.servers)
    × IsLive live x × IsMember ring j x) [
      | None ↦ λ e. absurd (not_alone ring live k lk dead all ((before_none ring.servers live k lk).0 e))
      | Some r ↦ λ e. elim (live_after_of ring.servers live k) as (λ a. live_after_of ring.servers live k ≡ a →
          (x : ℕ) × (source_in ring.servers j k (Some r) a ≡ Some x) × (x < ring.servers) × IsLive live x
          × IsMember ring j x) [
            | None ↦ λ o. absurd (not_alone ring live k lk dead all ((after_none ring.servers live k lk).0 o))
            | Some s ↦ λ o.
                let found = is_source ring live k r s j lk dead ((before_found ring.servers live k r lk).0 e)
                ((after_found ring.servers live k s lk).0 o) all lj member in
                (source_between ring.servers r s j k, refl, found.0, found.1, found.2)
          ] refl
    ] refl
