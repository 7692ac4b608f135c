use Rattle.std.proofs.Common.{◌≡◌, ◌<◌, Ok, length, subst, arith}
use Rattle.std.specs.Option.{option_map}
use Rattle.ftc_link.specs.Queue.{Queue, oldest_of}
use Rattle.ftc_message.specs.Reading.{message_of}
use Rattle.ftc_network.specs.Parts.{link_in}
use Rattle.ftc_network.proofs.OneServer.{read_link}
use Rattle.ftc_network.proofs.network.Network.frame.Goals as goal

pub index-requires : goal.index-requires
index-requires c =
    let old = c.args.self.now in
    let below = c.requires in
    omega (arith, below, old.each_link, c.place_of.ensures)

pub returns : goal.returns
returns c =
    let old = c.args.self.now in
    let below = c.requires in
    let within : c.place_of.result < length old.links.items =
    omega (arith, below, old.each_link, c.place_of.ensures) in
    let queue : c.index.result.now ≡ link_in old.links.items c.args.link =
    read_link old.links.items c.place_of.result c.args.link c.index.result.now c.place_of.ensures within
    c.index.ensures in
    subst (λ (q : Queue). option_map (λ frame. message_of frame.now) c.frame.result
    ≡ option_map Ok (oldest_of q.messages))
    queue c.frame.ensures.read
