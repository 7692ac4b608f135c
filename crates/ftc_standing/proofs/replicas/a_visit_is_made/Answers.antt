use Rattle.std.proofs.Common.{List, Some, subst, sym, refl}
use Rattle.std.proofs.lemmas.Option.{same_Some}
use Rattle.ftc_txn.specs.Logs.{IsLogOf}
use Rattle.ftc_protocol.specs.Next.{outcome_at}
use Rattle.ftc_standing.specs.Stand.{HeldItem, IsServerOf}
use Rattle.ftc_standing.proofs.Firm.{firm}
use Rattle.ftc_standing.proofs.WholeServers.{visits_only, visits}
use Rattle.ftc_standing.proofs.replicas.a_visit_is_made.Goals as goal

pub returns-clause-unchanging : goal.returns-clause-unchanging
returns-clause-unchanging c setting state server packet worker contents before item after sent log run legal up held
    origin touched made visited unchanging is =
    visits_only setting state
    (firm c.every_state_tied.ensures c.needs_of_packets.ensures c.withheld_packets.ensures setting state run)
    server packet worker legal up contents.head contents.later contents.known before item after contents.withheld
    contents.forwarded sent log origin touched made visited
    (subst (λ (items : List HeldItem). IsServerOf setting state server contents.head contents.later contents.known items
    contents.withheld
    contents.forwarded) held is) unchanging

pub returns-clause-changing : goal.returns-clause-changing
returns-clause-changing c setting state server packet worker contents before item after sent log run legal up held
    origin touching made visited changing is =
    visits setting state
    (firm c.every_state_tied.ensures c.needs_of_packets.ensures c.withheld_packets.ensures setting state run)
    server packet worker legal up contents.head contents.later contents.known before item after contents.withheld
    contents.forwarded sent (Some log) origin (sym touching)
    (λ one same. subst (IsLogOf server setting.partitions contents.head.vector packet
    (outcome_at setting state server packet).answers (outcome_at setting state server packet).writes)
    (same_Some log one same) made) visited
    (subst (λ (items : List HeldItem). IsServerOf setting state server contents.head contents.later contents.known items
    contents.withheld
    contents.forwarded) held is) changing log refl
