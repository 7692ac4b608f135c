use Rattle.std.proofs.Common.{◌≡◌, ◌∙◌, ◌<◌, ◌∷◌, ℕ, [], Some, refl, sym, ap, subst}
use Rattle.std.specs.Option.{option_map}
use Rattle.std.proofs.lemmas.Option.{none-some, same_Some}
use Rattle.ftc_journal.specs.declared.job.Job.TheVariants as job
use Rattle.ftc_link.specs.Queue.{Queue, oldest_of}
use Rattle.ftc_protocol.specs.Setting.{servers}
use Rattle.ftc_protocol.specs.Jobs.{IsLegalJob}
use Rattle.ftc_standing.specs.Stand.{IsLink, origin_of}
use Rattle.ftc_network.specs.Parts.{link_in}
use Rattle.ftc_jobs.proofs.Sizes.{size_of}
use Rattle.ftc_jobs.proofs.links.oldest_at.Goals as goal

pub returns : goal.returns
returns c setting state origin rest =
    let network = c.args.network.now in
    let link = c.args.link in
    let below : link < servers setting = subst (λ (n : ℕ). link < n) (size_of setting state network rest) c.requires in
    let queue = link_in network.links.items link in
    let is : IsLink setting state link queue = rest.stands.links_are link below in
    let told : c.oldest.result ≡ option_map origin_of (oldest_of queue.messages) =
    c.oldest.ensures ∙ ap (λ (q : Queue). option_map origin_of (oldest_of q.messages)) c.link_at.ensures in
    elim queue.messages as (λ messages. queue.messages ≡ messages →
    c.oldest.result ≡ option_map origin_of (oldest_of messages) →
    (c.oldest.result ≡ Some origin → IsLegalJob setting state (job.Take link origin))
    × (IsLegalJob setting state (job.Take link origin) → c.oldest.result ≡ Some origin)) [
      | [] ↦ λ none said. (
        (λ same. absurd (none-some origin (sym said ∙ same))),
        (λ legal. absurd (c.what_a_link_offers.ensures.none setting state link origin queue rest.run is none legal)),
      )
      | sent ∷ others ↦ λ some said. (
        (λ same. subst (λ (o : ℕ). IsLegalJob setting state (job.Take link o))
            (same_Some sent.origin origin (sym said ∙ same))
            (c.what_a_link_offers.ensures.oldest setting state link queue sent others rest.run rest.none_due is some)),
        (λ legal. said ∙ ap (λ (o : ℕ). Some o)
            (sym (c.what_a_link_offers.ensures.only setting state link origin queue sent others rest.run is some
            legal))),
      )
    ] refl told
