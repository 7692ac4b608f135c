-- The test of a flow packet computes what the definition says.
use Rattle.std.proofs.Common.{◌≡◌, List, ℕ, Bool, true, false, Some, None, arith, refl}
use Rattle.std.proofs.lemmas.Bool.Decides.{nat_tests}
use Rattle.std.specs.Prelude.{MatchOption}
use Rattle.ftc_packet.specs.Flow.{IsFlow, flow_found, flow_in, is_flow}

pub IsFlow-from : (bytes : List ℕ) → is_flow bytes ≡ true → IsFlow bytes
unfolding is_flow
IsFlow-from bytes passes = grind (arith, nat_tests)

pub is_flow-true : (bytes : List ℕ) → IsFlow bytes → is_flow bytes ≡ true
unfolding is_flow
is_flow-true bytes flow = grind (arith, nat_tests)

-- A flow packet's flow is found.
pub flow_found-some : (bytes : List ℕ) → IsFlow bytes → flow_found bytes ≡ Some (flow_in bytes)
unfolding flow_found
flow_found-some bytes flow = rw (is_flow-true bytes flow) refl

by_test : (bytes : List ℕ) (test : Bool) → is_flow bytes ≡ test →
    MatchOption (flow_found bytes) (¬ IsFlow bytes) (λ flow. IsFlow bytes × (flow ≡ flow_in bytes))
unfolding flow_found
by_test bytes true passes = rw passes (IsFlow-from bytes passes, refl)
by_test bytes false fails = rw fails (λ flow. cc (fails, is_flow-true bytes flow))

-- A flow is found exactly in a flow packet, and it is the one that its fields name.
pub flows_are_found : (bytes : List ℕ) →
    MatchOption (flow_found bytes) (¬ IsFlow bytes) (λ flow. IsFlow bytes × (flow ≡ flow_in bytes))
flows_are_found bytes = by_test bytes (is_flow bytes) refl

-- None is found in every other packet.
none_by_test : (bytes : List ℕ) (test : Bool) → is_flow bytes ≡ test → ¬ IsFlow bytes → flow_found bytes ≡ None
unfolding flow_found
none_by_test bytes true passes other = absurd (other (IsFlow-from bytes passes))
none_by_test bytes false fails other = rw fails refl

pub flow_found-none : (bytes : List ℕ) → ¬ IsFlow bytes → flow_found bytes ≡ None
flow_found-none bytes other = none_by_test bytes (is_flow bytes) refl other
