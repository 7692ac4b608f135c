use Rattle.std.proofs.Common.{ap, List}
use Rattle.std.proofs.lemmas.Slice.Eq.{slice_eq-Decides}
use Rattle.std.proofs.lemmas.Bool.Decides.{Decides-like}
use Rattle.ftc_firewall.specs.declared.rule.FireLine.{FireLine}
use Rattle.ftc_firewall.specs.declared.rule.FirewallRule.{FirewallRule}
use Rattle.ftc_mbox.proofs.Same.{same_line}
use Rattle.ftc_mbox.proofs.plan.same_firewall.Goals as goal

abbrev firewall_of : List FireLine → FirewallRule
firewall_of lines = record { lines = lines }

pub returns : goal.returns
returns c = rw (
  ← c.as_slice.ensures,
  ← c.as_slice-2.ensures,
) (Decides-like _ (λ e. ap firewall_of e) (λ e. ap (λ r. r.lines) e)
    (slice_eq-Decides same_line _ _ _ c.eq.ensures))
