use Rattle.std.proofs.Common.{List, ℕ, ◌++◌, ◌∷◌, [], false, subst, sym}
use Rattle.ftc_vector.specs.Commits.{all_merged}
use Rattle.ftc_journal.specs.declared.event.Event.TheVariants.{Enter, Propagate}
use Rattle.ftc_protocol.specs.Next.{next}
use Rattle.ftc_standing.specs.Stand.{IsServerOf, item_of}
use Rattle.ftc_standing.proofs.Firm.{firm}
use Rattle.ftc_standing.proofs.WholeServers.{enters, propagates}
use Rattle.ftc_standing.proofs.arriving_messages.a_message_begins.Goals as goal

pub returns-clause-entered : goal.returns-clause-entered
returns-clause-entered c setting state packet contents sent run legal up begun is =
    subst (λ (told : List (List ℕ)). IsServerOf setting
    (next setting state (Enter packet)) 0 contents.head contents.later
    (all_merged contents.known told) (contents.held ++ item_of false false sent
    ∷ []) contents.withheld contents.forwarded)
    (sym begun.no_commits)
    (enters setting state (firm c.every_state_tied.ensures c.needs_of_packets.ensures c.withheld_packets.ensures setting
    state run)
    contents.head contents.later contents.known contents.held contents.withheld contents.forwarded sent packet legal up
    begun is)

pub returns-clause-propagated : goal.returns-clause-propagated
returns-clause-propagated c setting state origin contents sent run legal begun is =
    subst (λ (told : List (List ℕ)). IsServerOf setting
    (next setting state (Propagate origin)) 0 contents.head contents.later
    (all_merged contents.known told) (contents.held ++ item_of false false sent
    ∷ []) contents.withheld contents.forwarded)
    (sym begun.no_commits)
    (propagates setting state
    (firm c.every_state_tied.ensures c.needs_of_packets.ensures c.withheld_packets.ensures setting state run)
    contents.head contents.later contents.known contents.held contents.withheld contents.forwarded sent origin legal
    begun is)
