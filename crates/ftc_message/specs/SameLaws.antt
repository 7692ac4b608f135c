-- The tests of sameness say that two things are equal.
use Rattle.std.proofs.Common.{◌≡◌, ◌∙◌, Bool, Some, None, refl, sym, ap}
use Rattle.std.specs.Prelude.{◌&&◌, nat_eq}
use Rattle.std.specs.Bool.{Decides}
use Rattle.std.specs.Cmp.{IsEquivalence, decided, unsigned_Decides, first_so, second_so}
use Rattle.std.specs.Cmp.Lexicographic.{pointwise, pointwise_decides}
use Rattle.std.specs.Option.{option_eq}
use Rattle.ftc_message.specs.Same.{same_marks, same_write, same_log, same_need, same_message}

abbrev Tells : {A : Type 0} → (A → A → Bool) → Type 0
Tells {A} test = (x y : A) → Decides (test x y) (x ≡ y)

pairs : {A B : Type 0} {one : A → A → Bool} {other : B → B → Bool} → Tells one → Tells other
    → Tells (λ (p q : A × B). one p.0 q.0 && other p.1 q.1)
pairs {A} {B} {one} {other} first second p q = (
  λ both i. (
    (first p.0 q.0).0 (first_so (one p.0 q.0) (other p.1 q.1) both) i,
    (second p.1 q.1).0 (second_so (one p.0 q.0) (other p.1 q.1) both) i,
  ),
  λ same i. (first p.0 q.0).1 (λ j. (same j).0) i && (second p.1 q.1).1 (λ j. (same j).1) i,
)

options : {A : Type 0} {test : A → A → Bool} → Tells test → Tells (option_eq test)
options tells None None = (λ _. refl, λ _. refl)
options tells None (Some y) = (λ is. absurd cc, λ is. absurd cc)
options tells (Some x) None = (λ is. absurd cc, λ is. absurd cc)
options {A} tells (Some x) (Some y) =
    (λ is. ap (λ (z : A). Some z) ((tells x y).0 is), λ is. (tells x y).1 (let e : x ≡ y = cc in e))

-- a test of the parts, of which the whole is made again
by_parts : {A B : Type 0} {test : B → B → Bool} → Tells test → (parts : A → B) (whole : B → A)
    → ((a : A) → whole (parts a) ≡ a) → Tells (λ (a b : A). test (parts a) (parts b))
by_parts tells parts whole again a b = (
  λ is. sym (again a) ∙ ap whole ((tells (parts a) (parts b)).0 is) ∙ again b,
  λ same. (tells (parts a) (parts b)).1 (ap parts same),
)

numbers : Tells nat_eq
numbers = unsigned_Decides

bytes : Tells (pointwise nat_eq)
bytes = pointwise_decides numbers

marks : Tells same_marks
marks = pointwise_decides (options numbers)

writes : Tells same_write
writes = by_parts (pairs bytes (options bytes)) (λ write. (write.key, write.value)) (λ p. record {
  key = p.0;
  value = p.1;
}) (λ _. refl)

pub logs_tell : Tells same_log
logs_tell =
    by_parts (pairs numbers (pairs numbers (pairs marks (pairs numbers (pointwise_decides writes)))))
    (λ log. (log.group, (log.origin, (log.before, (log.changed, log.writes)))))
    (λ p. record { group = p.0; origin = p.1.0; before = p.1.1.0; changed = p.1.1.1.0; writes = p.1.1.1.1 }) (λ _. refl)

pub needs_tell : Tells same_need
needs_tell =
    by_parts (pairs numbers marks) (λ need. (need.group, need.marks)) (λ p. record { group = p.0; marks = p.1 })
    (λ _. refl)

pub log_lists_tell : Tells (pointwise same_log)
log_lists_tell = pointwise_decides logs_tell

pub need_lists_tell : Tells (pointwise same_need)
need_lists_tell = pointwise_decides needs_tell

pub messages_tell : Tells same_message
messages_tell =
    by_parts
    (pairs numbers (pairs (options bytes) (pairs log_lists_tell (pairs need_lists_tell (pointwise_decides bytes)))))
    (λ message. (message.origin, (message.packet, (message.logs, (message.needs, message.commits)))))
    (λ p. record { origin = p.0; packet = p.1.0; logs = p.1.1.0; needs = p.1.1.1.0; commits = p.1.1.1.1 }) (λ _. refl)

pub log_equivalence : IsEquivalence same_log
log_equivalence = decided same_log logs_tell

pub log_list_equivalence : IsEquivalence (pointwise same_log)
log_list_equivalence = decided (pointwise same_log) log_lists_tell

pub need_list_equivalence : IsEquivalence (pointwise same_need)
need_list_equivalence = decided (pointwise same_need) need_lists_tell

pub message_equivalence : IsEquivalence same_message
message_equivalence = decided same_message messages_tell
