use Rattle.std.proofs.Common.{◌≡◌, ◌∙◌, ◌&&◌, ℕ, Bool, true, List, ap, subst, sym}
use Rattle.std.specs.List.{list_all}
use Rattle.std.proofs.lemmas.Bool.{lt-ltb}
use Rattle.ftc_server.specs.declared.recovering.GroupReplica.{GroupReplica}
use Rattle.ftc_server.specs.Standing.{is_later_member}
use Rattle.ftc_server.specs.Steps.{is_of_later}
use Rattle.ftc_network.specs.Reviving.{got_of, all_fetched}
use Rattle.ftc_network.proofs.GroupNews.{all_made}
use Rattle.ftc_network.proofs.MessageForms.{all_pass}
use Rattle.ftc_network.proofs.reviving.revived.Goals as goal

pub revive-requires-clause-others : goal.revive-requires-clause-others
revive-requires-clause-others c =
    let ring = c.args.ring.now in
    let server = c.args.server in
    let Fits = λ (new : GroupReplica). is_of_later ring server new ≡ true in
    let made = all_made (λ (group : ℕ). is_later_member ring group server)
    (λ (group : ℕ). record {
      group = group;
      replica = got_of ring server c.args.previous.now c.args.following.now group;
    })
    Fits ring.servers
    (λ group below later. ap (λ (b : Bool). b && is_later_member ring group server) (lt-ltb group ring.servers below)
    ∙ later) in
    subst (λ (replicas : List GroupReplica). list_all (is_of_later ring server) replicas ≡ true)
    (sym c.in_ok-others.ensures)
    (all_pass Fits (is_of_later ring server) (λ new is. is)
    (all_fetched ring server c.args.previous.now c.args.following.now) made)
