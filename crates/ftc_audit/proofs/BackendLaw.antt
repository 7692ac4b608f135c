-- At a balancer a client has one backend.
use Rattle.std.proofs.Common.{◌≡◌, ◌∙◌, sym, ap, refl, ℕ, List, Some}
use Rattle.std.specs.Prelude.{slice_get}
use Rattle.ftc_balance.specs.declared.rule.BalanceRule.{BalanceRule}
use Rattle.ftc_balance.specs.Balance.{client_key}
use Rattle.ftc_balance.specs.Bounds.{IsBalanceRule}
use Rattle.ftc_store.specs.Store.{Content}
use Rattle.std.specs.List.{AllByRecursion}
use Rattle.std.proofs.lemmas.Option.{same_Some}
use Rattle.ftc_mbox.specs.Bounds.{IsRule}
use Rattle.ftc_mbox.specs.declared.rule.Rule.{Rule}
use Rattle.ftc_mbox.specs.declared.rule.Rule.TheVariants.{Balance}
use Rattle.ftc_serial.specs.declared.step.Step.{Step}
use Rattle.ftc_serial.specs.Serial.{serial_opening}
use Rattle.ftc_audit.specs.declared.line.ClientLine.{ClientLine}
use Rattle.ftc_audit.specs.Visits.{Gave, visits}
use Rattle.ftc_audit.specs.Backends.{client_line_of, SameClient}
use Rattle.ftc_audit.proofs.ByteRuns.{rule_at}
use Rattle.ftc_audit.proofs.Runs.{end_of, ends_given}
use Rattle.ftc_audit.proofs.Balancing.{backend_at, HasBackend, Holds, balancing}

abbrev key_of : ClientLine → List ℕ
key_of line = client_key line.protocol line.address line.port

same_key : (one other : ClientLine) → SameClient one other → key_of one ≡ key_of other
same_key one other same = rw (same.protocol, same.address, same.port) refl

pub one_backend : (rules : List Rule) (packets : List (List ℕ)) (steps : List Step) (server : ℕ) (rule : BalanceRule)
    (one other : ClientLine) → AllByRecursion IsRule rules → slice_get rules server ≡ Some (Balance rule)
    → Gave (client_line_of rule) server (visits rules (serial_opening packets) steps) one
    → Gave (client_line_of rule) server (visits rules (serial_opening packets) steps) other
    → SameClient one other → one.backend ≡ other.backend
one_backend rules packets steps server rule one other all known gave given same =
    let fits : IsBalanceRule rule = rule_at rules server (Balance rule) all known in
    let kept = balancing rule fits in
    let start = serial_opening packets in
    let content : Content = (end_of rules start steps).maps server in
    let has : HasBackend content one = ends_given (Balance rule)
    (client_line_of rule) Holds HasBackend kept rules server known one start steps tt gave in
    let too : HasBackend content other = ends_given (Balance rule)
    (client_line_of rule) Holds HasBackend kept rules server known other start steps tt given in
    same_Some one.backend other.backend (sym has ∙ (ap (backend_at content) (same_key one other same) ∙ too))
