use Rattle.std.proofs.Common.{rules, ◌≡◌, ◌<◌, ◌==◌, ◌&&◌, ◌||◌, ◌↔◌, ◌∙◌, ℕ, not, nat_lt, true, List, [], length, refl}
use Rattle.std.proofs.Common.{ap, subst, arith}
use Rattle.std.proofs.lemmas.List.{get_or_read}
use Rattle.ftc_base.specs.Sets.{has}
use Rattle.ftc_ring.specs.Ring.{RingShape, next_of}
use Rattle.ftc_vector.specs.Commits.{all_merged}
use Rattle.ftc_machine.specs.Represents.{frontiers_of}
use Rattle.ftc_machine.specs.Gain.{HasGain}
use Rattle.ftc_protocol.specs.Setting.{servers}
use Rattle.ftc_ring.specs.Groups.{group_ending_at, is_later_member}
use Rattle.ftc_machine.specs.Tails.{part_of}
use Rattle.ftc_machine.proofs.AfterPull.{link_below, next_below, lists_pulled, stores_pulled, news_is, gaps_pulled}
use Rattle.ftc_machine.proofs.NextParts.{goes_on}
use Rattle.ftc_machine.proofs.state.MachineState.pull.Goals as goal

pub returns-clause-ok : goal.returns-clause-ok
returns-clause-ok c setting s may is =
    let k = c.args.self.now in
    let link = c.args.link in
    let receiver = next_of (servers setting) link in
    let rows = k.lists.items in
    let groups = c.groups_behind.result in
    let news = c.has_gain-news.result in
    let size : k.ring.servers ≡ servers setting = ap (λ (ring : RingShape). ring.servers) is.ring in
    let long : k.ring.servers ≡ servers setting → length rows ≡ servers setting = λ same. k.each_list ∙ same in
    let first : link < servers setting = link_below setting s link may k is in
    let second : receiver < servers setting = next_below setting s link may k is in
    let next : c.next-receiver.result ≡ receiver =
    c.next-receiver.ensures.same ∙ ap (λ number. next_of number link) size in
    let from : c.from-from.result ≡ link = c.from-from.ensures ∙ c.number.ensures.same in
    let to : c.from-to.result ≡ receiver = c.from-to.ensures ∙ c.number-2.ensures.same ∙ next in
    let are : (group : ℕ) → has groups group ≡ (nat_lt group k.ring.servers && is_later_member k.ring group receiver) =
    λ group. c.groups_behind.ensures group ∙ ap (λ server. nat_lt group k.ring.servers
    && is_later_member k.ring group server) next in
    let got : c.part-got.result ≡ part_of (has groups) (frontiers_of rows link) =
    c.part-got.ensures ∙ ap (part_of (has groups))
    (get_or_read rows c.from-from.result c.index.result.now (let all = long size in
    omega arith) c.index.ensures [] ∙ ap (frontiers_of rows) from) in
    let row : c.index-2.result.now ≡ frontiers_of rows receiver =
    get_or_read rows c.from-to.result c.index-2.result.now (let all = long size in
    omega arith) c.index-2.ensures [] ∙ ap (frontiers_of rows) to in
    let merged : c.merge.new.self
    ≡ all_merged (frontiers_of rows c.from-to.result) (part_of (has groups) (frontiers_of rows link)) =
    c.merge.ensures
    ∙ ap (λ (reach : List (List ℕ)). all_merged reach c.part-got.result)
    (get_or_read rows c.from-to.result c.index_mut.result.now (let all = long size in
    omega arith) c.index_mut.ensures.value [])
    ∙ ap (all_merged (frontiers_of rows c.from-to.result)) got in
    let are_news : (news ≡ true)
    ↔ HasGain (part_of (has groups) (frontiers_of rows link)) (frontiers_of rows receiver)
    (group_ending_at k.ring receiver) =
    subst (λ (reach : List (List ℕ)). (news ≡ true)
    ↔ HasGain reach (frontiers_of rows receiver) (group_ending_at k.ring receiver)) got
    (subst (λ (reach : List (List ℕ)). (news ≡ true)
    ↔ HasGain c.part-got.result reach (group_ending_at k.ring receiver)) row
    (subst (λ group. (news ≡ true) ↔ HasGain c.part-got.result c.index-2.result.now group)
    (c.group_ending_at-ending.ensures.same ∙ ap (group_ending_at k.ring) next) c.has_gain-news.ensures)) in
    let gaps : (other : ℕ) → has c.without-self.result other
    ≡ (not (other == link) && ((other == receiver && news) || has k.gaps other)) =
    λ other.
    c.without-self.ensures other ∙ ap (λ number. not (other == number)
    && has c.with_if.result other) c.number-3.ensures.same
    ∙ ap (λ b. not (other == link)
    && b) (c.with_if.ensures other ∙ ap (λ server. (other == server && news) || has k.gaps other) next) in
    goes_on is (search rules)
    (lists_pulled setting s link may k is groups are c.from-to.result c.merge.new.self _ to merged refl)
    is.sets.known is.sets.messages (stores_pulled setting s link may k is) is.forwarder is.buffer
    (gaps_pulled setting s link may k is c.without-self.result news
    (news_is setting s link may k is groups are news are_news) gaps)
    is.entered is.propagates is.fates
