use Rattle.std.proofs.Common.{◌≡◌, ◌∙◌, ◌+◌, ◌==◌, ◌∷◌, ℕ, Bool, true, false, Option, Some, ap, sym}
use Rattle.std.proofs.Common.{subst}
use Rattle.std.proofs.Math.Bool.{Bool-set}
use Rattle.std.proofs.Math.Logic.{∥∥₁_elim}
use Rattle.ftc_base.proofs.Results.{on_any_err}
use Rattle.ftc_journal.specs.declared.event.Event.TheVariants as event
use Rattle.ftc_link.specs.Queue.{Queue}
use Rattle.ftc_link.specs.Taking.{TakesOldest, TakesIfAny}
use Rattle.ftc_message.specs.declared.message.Message.{Message as SentMessage}
use Rattle.ftc_protocol.specs.Next.{next}
use Rattle.ftc_protocol.specs.Setting.{Setting, servers}
use Rattle.ftc_protocol.specs.State.{ChainState}
use Rattle.ftc_protocol.specs.Legal.{IsLegal}
use Rattle.ftc_protocol.specs.Run.{IsRunState}
use Rattle.ftc_ring.specs.Ring.{next_of}
use Rattle.ftc_refinement.specs.Contents.{IsServerAt}
use Rattle.ftc_server.specs.declared.server.Server.{Server}
use Rattle.ftc_server.specs.Holding.{is_held, arrived}
use Rattle.ftc_server.specs.Slots.{is_open}
use Rattle.ftc_server.specs.State.{ServerState}
use Rattle.ftc_server.specs.Steps.{HasTaken}
use Rattle.ftc_standing.specs.Stand.{IsLink}
use Rattle.ftc_network.specs.Events.{IsTaking}
use Rattle.ftc_network.specs.Parts.{buffer_of}
use Rattle.ftc_network.specs.Stand.{IsSlot, IsUp}
use Rattle.ftc_network.proofs.ReadySlots.{same_runs, roomed_still}
use Rattle.ftc_network.proofs.Heads.{same_head}
use Rattle.ftc_network.proofs.taking.take_at.Goals as goal

-- what is allowed of a link and its receiver, where it is a test on what is taken and the receiver with room for it
taken_up : (link origin : ℕ) (by_ring : Bool) (queue after : Queue) (slot : Option Server) (server roomed : Server)
    (message : SentMessage) (test value : Bool) → slot ≡ Some server → TakesOldest queue after message →
    ((setting : Setting) (state : ChainState) (number : ℕ) → IsServerAt setting state number server →
    IsServerAt setting state number roomed) →
    ((setting : Setting) (state : ChainState) → IsRunState setting state →
    IsLegal setting state (event.Take link origin) → by_ring ≡ (link + 1 == servers setting) →
    IsLink setting state link queue → queue.messages ≡ message ∷ after.messages →
    IsServerAt setting state (next_of (servers setting) link) roomed → test ≡ value) →
    ∥ IsTaking link origin by_ring queue slot ∥₁ → test ≡ value
taken_up link origin by_ring queue after slot server roomed message test value same takes room proves allowed =
    ∥∥₁_elim allowed (Bool-set _ _) (λ given.
    let up : IsUp given.setting given.state (next_of (servers given.setting) link) server =
    subst (IsSlot given.setting given.state (next_of (servers given.setting) link)) same given.stands in
    proves given.setting given.state given.run given.legal given.by_ring_is given.link_stands
    (ap (λ (q : Queue). q.messages) takes.oldest)
    (room given.setting given.state (next_of (servers given.setting) link) up.at))

pub returns-in_err-make_room-in-Some-clause-slot : goal.returns-in_err-make_room-in-Some-clause-slot
returns-in_err-make_room-in-Some-clause-slot c =
    on_any_err c.from_residual.result _ (roomed_still c.args.slot.now c.in-Some.server c.make_room.new.self c.in-Some.is
    c.make_room.ensures.same (λ setting state number at fields.
    c.what_stays.ensures.roomed setting state number c.in-Some.server c.make_room.new.self at fields))

pub returns-in_err-message-in-Some-clause-slot : goal.returns-in_err-message-in-Some-clause-slot
returns-in_err-message-in-Some-clause-slot c =
    on_any_err c.from_residual-in_err-message-in-Some.result _ (roomed_still c.args.slot.now c.in-Some.server
    c.make_room.new.self c.in-Some.is c.make_room.ensures.same (λ setting state number at fields.
    c.what_stays.ensures.roomed setting state number c.in-Some.server c.make_room.new.self at fields))

pub take-requires-clause-new : goal.take-requires-clause-new
take-requires-clause-new c =
    let takes : TakesOldest c.args.link.now c.take_from.new.link c.in-Some-2.message =
    subst (TakesIfAny c.args.link.now c.take_from.new.link) c.in-Some-2.is c.in_ok-message-in-Some.ensures.taken in
    taken_up c.args.sender c.args.origin c.args.by_ring c.args.link.now c.take_from.new.link c.args.slot.now
    c.in-Some.server
    c.make_room.new.self c.in-Some-2.message (is_held c.in-Some-2.message.origin c.make_room.new.self.held.items) false
    c.in-Some.is takes
    (λ setting state number is. c.what_stays.ensures.roomed setting state number c.in-Some.server c.make_room.new.self
    is
    c.make_room.ensures.same)
    (λ setting state run legal ring queued first is.
    (c.what_take_wants.ensures.received setting state c.args.sender c.args.origin c.args.link.now c.in-Some-2.message
    c.take_from.new.link.messages c.make_room.new.self run legal queued first is).0) c.requires

pub take-requires-clause-open : goal.take-requires-clause-open
take-requires-clause-open c =
    let takes : TakesOldest c.args.link.now c.take_from.new.link c.in-Some-2.message =
    subst (TakesIfAny c.args.link.now c.take_from.new.link) c.in-Some-2.is c.in_ok-message-in-Some.ensures.taken in
    taken_up c.args.sender c.args.origin c.args.by_ring c.args.link.now c.take_from.new.link c.args.slot.now
    c.in-Some.server
    c.make_room.new.self c.in-Some-2.message
    (is_open c.make_room.new.self.id (arrived c.in-Some-2.message c.args.by_ring)) true c.in-Some.is takes
    (λ setting state number is. c.what_stays.ensures.roomed setting state number c.in-Some.server c.make_room.new.self
    is
    c.make_room.ensures.same)
    (λ setting state run legal ring queued first is.
    subst (λ (b : Bool). is_open c.make_room.new.self.id (arrived c.in-Some-2.message b) ≡ true) (sym ring)
    (c.what_take_wants.ensures.received setting state c.args.sender c.args.origin c.args.link.now c.in-Some-2.message
    c.take_from.new.link.messages c.make_room.new.self run legal queued first is).1) c.requires

pub returns-in-Some-2-clause-ok : goal.returns-in-Some-2-clause-ok
returns-in-Some-2-clause-ok c setting state ring run legal queued is =
    let link = c.args.sender in
    let receiver = next_of (servers setting) link in
    let old = c.in-Some.server in
    let roomed = c.make_room.new.self in
    let mid = c.take.new.self in
    let new = c.prune.new.self in
    let takes : TakesOldest c.args.link.now c.take_from.new.link c.in-Some-2.message =
    subst (TakesIfAny c.args.link.now c.take_from.new.link) c.in-Some-2.is c.in_ok-message-in-Some.ensures.taken in
    let first = ap (λ (q : Queue). q.messages) takes.oldest in
    let up : IsUp setting state receiver old = subst (IsSlot setting state receiver) c.in-Some.is is in
    let at = c.what_stays.ensures.roomed setting state receiver old roomed up.at c.make_room.ensures.same in
    let taken : HasTaken roomed mid c.in-Some-2.message (link + 1 == servers setting) =
    subst (λ (b : Bool). HasTaken roomed mid c.in-Some-2.message b) ring c.take.ensures in
    let at_taken = c.what_take_does.ensures.received setting state link c.args.origin c.args.link.now
    c.in-Some-2.message
    c.take_from.new.link.messages roomed mid run legal queued first at taken in
    let at_after = c.what_stays.ensures.pruned setting (next setting state (event.Take link c.args.origin)) receiver
    mid new at_taken c.prune.ensures in (
      subst (IsLink setting (next setting state (event.Take link c.args.origin)) link)
          (ap (λ (q : Queue). record q { messages = c.take_from.new.link.messages }) takes.oldest)
          (c.a_message_is_taken.ensures.link setting state link c.args.origin c.args.link.now c.in-Some-2.message
          c.take_from.new.link.messages run legal queued first),
      record {
        up = up.up;
        at = at_after;
        ready = c.slots_stay_ready.ensures setting state
            (event.Take link c.args.origin) receiver old new run legal up.at
            at_after (same_runs old new (ap (λ (s : ServerState). s.head) c.prune.ensures.rest
            ∙ ap (λ (s : ServerState). s.head) taken.rest ∙ ap
            (λ (s : ServerState). s.head) c.make_room.ensures.same.rest)) up.ready;
      },
    )

pub returns-in-None-clause-ok : goal.returns-in-None-clause-ok
returns-in-None-clause-ok c setting state ring run legal queued is =
    let up = (c.where_events_are.ensures.take setting state c.args.sender c.args.origin run legal).1 in
    let down : state.up (next_of (servers setting) c.args.sender) ≡ false =
    subst (IsSlot setting state (next_of (servers setting) c.args.sender)) c.in-None.is is in
    absurd cc

pub returns-in-Some-2-clause-buffer : goal.returns-in-Some-2-clause-buffer
returns-in-Some-2-clause-buffer c =
    ap (λ (s : ServerState). s.buffer.items) c.prune.ensures.rest
    ∙ (ap (λ (s : ServerState). s.buffer.items) c.take.ensures.rest ∙ ap
    (λ (s : ServerState). s.buffer.items) c.make_room.ensures.same.rest ∙ ap buffer_of (sym c.in-Some.is))

pub returns-in-Some-2-clause-heads : goal.returns-in-Some-2-clause-heads
returns-in-Some-2-clause-heads c =
    same_head c.args.slot.now c.in-Some.server c.prune.new.self c.in-Some.is
    (ap (λ (s : ServerState). s.head) c.prune.ensures.rest ∙ ap (λ (s : ServerState). s.head) c.take.ensures.rest
    ∙ ap (λ (s : ServerState). s.head) c.make_room.ensures.same.rest)
