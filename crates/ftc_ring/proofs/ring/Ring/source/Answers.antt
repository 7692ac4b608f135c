use Rattle.std.proofs.Common.{◌≡◌, ◌<◌, ◌∙◌, ℕ, if◌then◌else◌, refl, sym, subst, rules}
use Rattle.std.proofs.lemmas.Option.{same_Some}
use Rattle.ftc_ring.specs.Ring.{apart}
use Rattle.ftc_ring.specs.Live.{is_live, IsLiveBefore, IsLiveAfter, is_from_before}
use Rattle.ftc_ring.proofs.Nearest.{before_found, after_found}
use Rattle.ftc_ring.proofs.Sources.{from_after, after_is_member}
use Rattle.ftc_ring.proofs.ring.Ring.source.Goals as goal

-- the nearest live servers are those that were found
pub returns-then-is_from_before-clause-nearest : goal.returns-then-is_from_before-clause-nearest
returns-then-is_from_before-clause-nearest c = λ before after first last.
    let n = c.args.self.now.servers in
    let k = c.args.server in
    let found : c.in-Some-Some.before ≡ before = same_Some _ _ (sym c.in-Some-Some.is-0
    ∙ c.live_before.ensures.value ∙ (before_found n (is_live c.args.down) k before c.requires.server).1 first) in
    subst (λ (x : ℕ). c.in-Some-Some.before ≡ (if is_from_before n x c.args.group k then x else after)) found
    (rw (sym c.is_from_before.ensures ∙ c.if-is_from_before.true) refl)

pub returns-else-is_from_before-clause-nearest : goal.returns-else-is_from_before-clause-nearest
returns-else-is_from_before-clause-nearest c = λ before after first last.
    let n = c.args.self.now.servers in
    let down = is_live c.args.down in
    let k = c.args.server in
    let found : c.in-Some-Some.before ≡ before = same_Some _ _ (sym c.in-Some-Some.is-0
    ∙ c.live_before.ensures.value ∙ (before_found n down k before c.requires.server).1 first) in
    let behind : c.in-Some-Some.after ≡ after = same_Some _ _ (sym c.in-Some-Some.is-1
    ∙ c.live_after.ensures.value ∙ (after_found n down k after c.requires.server).1 last) in
    subst (λ (x : ℕ). c.in-Some-Some.after ≡ (if is_from_before n x c.args.group k then x else after)) found
    (rw (sym c.is_from_before.ensures ∙ c.if-is_from_before.false) behind)

pub returns-else-is_from_before-clause-member : goal.returns-else-is_from_before-clause-member
returns-else-is_from_before-clause-member c =
    let ring = c.args.self.now in
    let down = is_live c.args.down in
    let k = c.args.server in
    let r = c.in-Some-Some.before in
    let s = c.in-Some-Some.after in
    let before : IsLiveBefore ring.servers down k r = rw c.in-Some-Some.is-0 at c.live_before.ensures.nearest in
    let after : IsLiveAfter ring.servers down k s = rw c.in-Some-Some.is-1 at c.live_after.ensures.nearest in
    let less : apart ring.servers c.args.group k < apart ring.servers r k = search rules in
    after_is_member ring down k r s c.args.group c.requires.server c.requires.down before after c.requires.admissible
    c.requires.group
    (from_after ring.servers down k r s c.args.group c.requires.server c.requires.down before after c.requires.group
    less)
