-- Where a visit is legal, it is what is to be done with the message.
use Rattle.std.proofs.Common.{◌≡◌, ◌∙◌, ◌↔◌, ℕ, Bool, true, false, Option, Some, None, refl, ap, subst}
use Rattle.std.proofs.Math.Bool.{Bool-set}
use Rattle.std.proofs.Math.Logic.{∥∥₁_elim}
use Rattle.ftc_journal.specs.declared.event.Event.TheVariants as event
use Rattle.ftc_protocol.specs.Legal.{MayHappen}
use Rattle.ftc_protocol.specs.Run.{IsRunState}
use Rattle.ftc_protocol.specs.Setting.{Setting}
use Rattle.ftc_protocol.specs.State.{ChainState}
use Rattle.ftc_refinement.specs.Contents.{IsServerAt}
use Rattle.ftc_server.specs.declared.server.Server.{Server}
use Rattle.ftc_server.specs.declared.work.Work.{Work}
use Rattle.ftc_server.specs.declared.work.Work.TheVariants.{Apply, Visit, Send, Carry}
use Rattle.ftc_server.specs.Looks.{work_in}
use Rattle.ftc_network.specs.Slots.{IsLegalAt}
use Rattle.ftc_network.specs.Stand.{IsSlot, IsUp}

pub is_visit : Option Work → Bool
is_visit None = false
is_visit (Some (Apply group packet)) = false
is_visit (Some Visit) = true
is_visit (Some Send) = false
is_visit (Some Carry) = false

pub visit_if : (work : Option Work) → is_visit work ≡ true → work ≡ Some Visit
unfolding is_visit
visit_if None is = absurd cc
visit_if (Some (Apply group packet)) is = absurd cc
visit_if (Some Visit) is = refl
visit_if (Some Send) is = absurd cc
visit_if (Some Carry) is = absurd cc

pub visit_is : is_visit (Some Visit) ≡ true
unfolding is_visit
visit_is = refl

pub work_there : (slot : Option Server) (live : Server) (worker server packet : ℕ) → slot ≡ Some live →
    ((setting : Setting) (state : ChainState) → IsRunState setting state → IsServerAt setting state server live →
    (work_in live packet ≡ Some Visit) ↔ MayHappen setting state (event.Visit server packet worker)) →
    ∥ IsLegalAt (event.Visit server packet worker) server slot ∥₁ → work_in live packet ≡ Some Visit
work_there slot live worker server packet is says legal =
    visit_if (work_in live packet) (∥∥₁_elim legal (Bool-set _ _) (λ given.
    let up : IsUp given.setting given.state server live =
    subst (IsSlot given.setting given.state server) is given.stands in
    ap is_visit ((says given.setting given.state given.run up.at).1 given.legal.0) ∙ visit_is))
