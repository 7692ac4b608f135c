use Rattle.std.proofs.Common.{◌∙◌, List, ap, sym, subst}
use Rattle.std.proofs.Math.Logic.{∥∥₁_map}
use Rattle.std.specs.List.{list_all}
use Rattle.ftc_server.specs.declared.held.HeldMessage.{HeldMessage}
use Rattle.ftc_server.specs.Holding.{found, are_rising}
use Rattle.ftc_server.specs.Waiting.{AreWatched}
use Rattle.ftc_server.specs.Slots.{AreSlots, is_open}
use Rattle.ftc_server.proofs.Finding.{all_without}
use Rattle.ftc_server.proofs.Slotting.{slots_without}
use Rattle.ftc_server.proofs.StillWatched.{left_watched}
use Rattle.ftc_server.proofs.Working.{goes_on_or_ends}
use Rattle.ftc_server.proofs.HadBefore.{had_left}
use Rattle.ftc_server.proofs.server.Server.let_go.Goals as goal

pub invariant_of-self-clause-open : goal.invariant_of-self-clause-open
invariant_of-self-clause-open c =
    let server = c.args.self.now in
    ap (list_all (is_open server.id)) c.take_out.ensures.others
    ∙ all_without (is_open server.id) c.args.origin server.held.items server.«open»

pub invariant_of-self-clause-slots : goal.invariant_of-self-clause-slots
invariant_of-self-clause-slots c =
    let server = c.args.self.now in
    let gone = goes_on_or_ends server.others.items (found c.args.origin server.held.items) c.requires in
    subst (λ (items : List HeldMessage). ∥ AreSlots server.rule server.head items ∥₁) (sym c.take_out.ensures.others)
    (∥∥₁_map server.slots (slots_without server.rule server.head server.held.items c.args.origin gone.held gone.there
    gone.visited))

pub invariant_of-self-clause-rising : goal.invariant_of-self-clause-rising
invariant_of-self-clause-rising c =
    let server = c.args.self.now in
    ap (list_all are_rising) c.take_out.ensures.others
    ∙ all_without are_rising c.args.origin server.held.items server.«rising»

pub invariant_of-self-clause-watched : goal.invariant_of-self-clause-watched
invariant_of-self-clause-watched c =
    let server = c.args.self.now in
    let gone = goes_on_or_ends server.others.items (found c.args.origin server.held.items) c.requires in
    subst (λ (items : List HeldMessage). AreWatched server.others.items items c.take_out.new.self.resting
    server.waits.items) (sym c.take_out.ensures.others)
    (left_watched server.others.items server.held.items server.held.resting c.take_out.new.self.resting
    server.waits.items c.args.origin gone.held c.len.ensures.distinct server.«watched» server.«unreached» gone.there
    gone.ready c.take_out.ensures.resting)

pub invariant_of-self-clause-had : goal.invariant_of-self-clause-had
invariant_of-self-clause-had c =
    let server = c.args.self.now in
    had_left server.others.items server.held.items c.take_out.new.self.items server.held.had c.take_out.new.self.had
    c.args.origin c.take_out.ensures.others c.len.ensures.distinct c.take_out.ensures.had server.«had»
