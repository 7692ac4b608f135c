use Rattle.ftc_standing.proofs.Firm.{firm}
use Rattle.ftc_standing.proofs.Events.{oldest_is, link_taken}
use Rattle.ftc_standing.proofs.WholeServers.{takes}
use Rattle.ftc_standing.proofs.arriving_messages.a_message_is_taken.Goals as goal

pub returns-clause-origin : goal.returns-clause-origin
returns-clause-origin c setting state link origin queue sent rest run legal is first =
    oldest_is setting state (firm c.every_state_tied.ensures c.needs_of_packets.ensures c.withheld_packets.ensures
    setting state run)
    link origin legal queue sent rest is first

pub returns-clause-link : goal.returns-clause-link
returns-clause-link c setting state link origin queue sent rest run legal is first =
    link_taken setting state
    (firm c.every_state_tied.ensures c.needs_of_packets.ensures c.withheld_packets.ensures setting state run)
    link origin legal queue sent rest is first

pub returns-clause-receiver : goal.returns-clause-receiver
returns-clause-receiver c setting state link origin queue sent rest contents run legal link_is first is =
    takes setting state (firm c.every_state_tied.ensures c.needs_of_packets.ensures c.withheld_packets.ensures setting
    state run)
    contents.head contents.later contents.known contents.held contents.withheld contents.forwarded sent link origin
    legal
    queue rest link_is first is
