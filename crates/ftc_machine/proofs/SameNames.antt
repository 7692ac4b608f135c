-- What `==` says of lists of visits.
use Rattle.std.proofs.Common.{◌≡◌, ◌&&◌, eqb, ap, Decides}
use Rattle.std.proofs.lemmas.Bool.Decides.{Decides-and, Decides-like, Decides-eqb}
use Rattle.ftc_journal.specs.declared.event.VisitName.{VisitName}

pub same_name : (a b : VisitName) → Decides (eqb a.server b.server && eqb a.packet b.packet) (a ≡ b)
same_name a b =
    Decides-like _ (λ e i. record { server = e.0 i; packet = e.1 i }) (λ e. (
      ap (λ (x : VisitName). x.server) e,
      ap (λ (x : VisitName). x.packet) e,
    ))
    (Decides-and _ _ (Decides-eqb a.server b.server) (Decides-eqb a.packet b.packet))
