-- The tests of members, tails and servers between say what the words of the ring say.
use Rattle.std.proofs.Common.{◌≡◌, ◌↔◌, ℕ, ◌+◌, ◌-◌, ◌<◌, ◌≤◌, if◌then◌else◌, nat_le, nat_lt, true, false, refl, arith}
use Rattle.std.proofs.Common.{leb-true, le-leb, leb-false, ltb-true, lt-ltb, eqb-true, eq-eqb}
use Rattle.std.proofs.lemmas.Bool.{and_parts, and_from}
use Rattle.ftc_ring.specs.Ring.{apart, IsMember, tail_of}
use Rattle.ftc_ring.specs.Live.{IsBetween, span}
use Rattle.ftc_protocol.specs.Setting.{Setting, IsSetting, servers, shape, is_member, is_tail}
use Rattle.ftc_protocol.specs.Recovery.{is_between}
use Rattle.ftc_protocol.proofs.RingDistances.{apart_cases}

pub member_says : (c : Setting) (group server : ℕ) → (is_member c group server ≡ true) ↔ IsMember (shape c) group server
member_says c group server = (
  leb-true (apart (servers c) group server) c.failures,
  le-leb
      (apart (servers c) group server) c.failures,
)

-- the server that far behind another
tail_by : (n f g k : ℕ) → f < n → g < n → k < n → (apart n g k ≡ f)
    ↔ (k ≡ (if nat_le n (g + f) then g + f - n else g + f))
tail_by n f g k small gl kl =
    let far = apart_cases n g k gl kl in
    elim (nat_le n (g + f)) as (λ b. nat_le n (g + f) ≡ b → (apart n g k ≡ f)
    ↔ (k ≡ (if b then g + f - n else g + f))) [
      | true ↦ λ is. let most : n ≤ g + f = leb-true n (g + f) is in (λ e. omega arith, λ e. omega arith)
      | false ↦ λ is. let less : g + f < n = leb-false n (g + f) is in (λ e. omega arith, λ e. omega arith)
    ] refl

pub tail_says : (c : Setting) → IsSetting c → (group server : ℕ) → group < servers c → server < servers c
    → (is_tail c group server ≡ true) ↔ (server ≡ tail_of (shape c) group)
tail_says c is group server gl kl =
    let says = tail_by (servers c) c.failures group server is.ring.failures gl kl in (
      λ test. says.0 (eqb-true (apart (servers c) group server) c.failures test),
      λ tail. eq-eqb (apart (servers c) group server) c.failures (says.1 tail),
    )

pub between_says : (n previous following head : ℕ) → (is_between n previous following head ≡ true)
    ↔ IsBetween n previous following head
between_says n previous following head = (
  λ test. let parts = and_parts (nat_lt 0 (apart n previous head))
      (nat_lt (apart n previous head) (span n previous following)) test in
      record {
        behind = ltb-true 0 (apart n previous head) parts.0;
        ahead = ltb-true (apart n previous head)
            (span n previous following) parts.1;
      },
  λ is. and_from (nat_lt 0 (apart n previous head)) (nat_lt (apart n previous head) (span n previous following))
      (lt-ltb 0 (apart n previous head) is.behind) (lt-ltb (apart n previous head)
      (span n previous following) is.ahead),
)
