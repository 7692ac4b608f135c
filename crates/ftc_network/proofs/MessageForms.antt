-- That a message has a frame, and which work is to be done, where it is known only that this is so.
use Rattle.std.proofs.Common.{◌≡◌, ◌∙◌, ◌&&◌, ◌||◌, ℕ, zero, suc, Bool, true, false, List, [], ◌∷◌, Option, Some, None}
use Rattle.std.proofs.Common.{refl, ap}
use Rattle.std.proofs.Math.Bool.{Bool-set, or-true}
use Rattle.std.proofs.Math.Logic.{∥∥₁_elim}
use Rattle.std.specs.Prelude.{is_some}
use Rattle.std.specs.List.{AllByRecursion, list_all, list_any}
use Rattle.ftc_message.specs.Bounds.{MarksSome}
use Rattle.ftc_message.specs.declared.message.Message.{Message}
use Rattle.ftc_message.specs.declared.need.Need.{Need}
use Rattle.ftc_message.specs.Logged.{Logged}
use Rattle.ftc_vector.specs.Vector.{mark_at}
use Rattle.ftc_server.specs.declared.work.Work.{Work}
use Rattle.ftc_server.specs.declared.work.Work.TheVariants.{Apply, Visit, Send, Carry}
use Rattle.ftc_network.specs.Sending.{HasFrameIfRoom}

-- ---- work

abbrev is_send : Option Work → Bool
is_send (Some Send) = true
is_send (Some Carry) = false
is_send (Some Visit) = false
is_send (Some (Apply group packet)) = false
is_send None = false

told_send : (work : Option Work) → is_send work ≡ true → work ≡ Some Send
told_send (Some Send) is = refl
told_send (Some Carry) is = absurd cc
told_send (Some Visit) is = absurd cc
told_send (Some (Apply group packet)) is = absurd cc
told_send None is = absurd cc

pub work_is_send : {A : Type 0} (work : Option Work) → ∥ A ∥₁ → (A → work ≡ Some Send) → work ≡ Some Send
work_is_send work some from = told_send work (∥∥₁_elim some (Bool-set _ _) (λ a. ap is_send (from a)))

-- ---- marks

abbrev is_marked : List (Option ℕ) → Bool
is_marked marks = list_any (λ (mark : Option ℕ). is_some mark) marks

marked_at : (marks : List (Option ℕ)) (partition : ℕ) → is_some (mark_at marks partition) ≡ true →
    is_marked marks ≡ true
marked_at [] partition is = absurd cc
marked_at (mark ∷ marks) zero is = ap (λ b. b || is_marked marks) is
marked_at (mark ∷ marks) (suc partition) is =
    ap (λ b. is_some mark || b) (marked_at marks partition is) ∙ or-true (is_some mark)

first_mark : (marks : List (Option ℕ)) → is_marked marks ≡ true →
    (partition : ℕ) × (is_some (mark_at marks partition) ≡ true)
first_mark [] is = absurd cc
first_mark (Some number ∷ marks) is = (zero, refl)
first_mark (None ∷ marks) is = let behind = first_mark marks is in (suc behind.0, behind.1)

marks_some : (marks : List (Option ℕ)) → MarksSome marks → is_marked marks ≡ true
marks_some marks has = marked_at marks has.some.0 has.some.1

has_some : (marks : List (Option ℕ)) → is_marked marks ≡ true → MarksSome marks
has_some marks is = record { some = first_mark marks is }

-- ---- all of a list

and_left : (a b : Bool) → a && b ≡ true → a ≡ true
and_left true b both = refl
and_left false b both = absurd cc

and_right : (a b : Bool) → a && b ≡ true → b ≡ true
and_right true b both = both
and_right false b both = absurd cc

module _ {A : Type 0} (Fact : A → Type 0) (test : A → Bool) where
  pub all_pass : ((item : A) → Fact item → test item ≡ true) → (items : List A) → AllByRecursion Fact items →
      list_all test items ≡ true
  all_pass tells [] all = refl
  all_pass tells (item ∷ items) all =
      ap (λ b. b && list_all test items) (tells item all.0) ∙ all_pass tells items all.1

  all_told : ((item : A) → test item ≡ true → Fact item) → (items : List A) → list_all test items ≡ true →
      AllByRecursion Fact items
  all_told told [] all = tt
  all_told told (item ∷ items) all = (
    told item (and_left (test item) (list_all test items) all),
    all_told told items (and_right (test item) (list_all test items) all),
  )

-- ---- a message

abbrev is_bare : List Need → Bool
is_bare [] = true
is_bare (need ∷ needs) = false

bare_told : (needs : List Need) → is_bare needs ≡ true → needs ≡ []
bare_told [] is = refl
bare_told (need ∷ needs) is = absurd cc

bare_where : (packet : Option (List ℕ)) (needs : List Need) → (packet ≡ None → needs ≡ []) →
    is_some packet || is_bare needs ≡ true
bare_where None needs none = ap is_bare (none refl)
bare_where (Some bytes) needs none = refl

none_where : (packet : Option (List ℕ)) (needs : List Need) → is_some packet || is_bare needs ≡ true →
    packet ≡ None → needs ≡ []
none_where None needs bare none = bare_told needs bare
none_where (Some bytes) needs bare none = absurd cc

-- it has a frame where it is known that it has one, if there is room
pub has_frame : {A : Type 0} (message : Message) → ∥ A ∥₁ → (A → HasFrameIfRoom message) → HasFrameIfRoom message
has_frame {A} message some from few short =
    record {
      packet = short;
      few_logs = few;
      logs = all_told (λ (log : Logged). MarksSome log.before) (λ (log : Logged). is_marked log.before)
          (λ log is. has_some log.before is) message.logs
          (∥∥₁_elim some (Bool-set _ _) (λ a.
          all_pass (λ (log : Logged). MarksSome log.before) (λ (log : Logged). is_marked log.before)
          (λ log has. marks_some log.before has) message.logs (from a few short).logs));
      needs = all_told (λ (need : Need). MarksSome need.marks) (λ (need : Need). is_marked need.marks)
          (λ need is. has_some need.marks is) message.needs
          (∥∥₁_elim some (Bool-set _ _) (λ a.
          all_pass (λ (need : Need). MarksSome need.marks) (λ (need : Need). is_marked need.marks)
          (λ need has. marks_some need.marks has) message.needs (from a few short).needs));
      no_needs = none_where message.packet message.needs
          (∥∥₁_elim some (Bool-set _ _) (λ a. bare_where message.packet message.needs (from a few short).no_needs));
    }
