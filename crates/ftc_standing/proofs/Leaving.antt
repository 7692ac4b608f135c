-- What is sent on of a message that leaves a server.
use Rattle.std.proofs.Common.{◌≡◌, ◌==◌, ◌||◌, ◌&&◌, ◌∙◌, ℕ, Bool, true, false, not, List, [], ◌∷◌, refl, ap}
use Rattle.std.proofs.Common.{if◌then◌else◌, sym}
use Rattle.std.specs.List.{list_any}
use Rattle.std.proofs.Math.Bool.{or_comm, or_assoc}
use Rattle.ftc_message.specs.declared.need.Need.{Need}
use Rattle.ftc_message.specs.Logged.{Logged}
use Rattle.ftc_message.specs.Ordered.{with_item, with_items, is_earlier}
use Rattle.ftc_message.proofs.InOrder.{all-with_items}
use Rattle.ftc_protocol.specs.Setting.{Setting, is_tail}
use Rattle.ftc_protocol.specs.Visits.{Visits, no_visits}
use Rattle.ftc_protocol.specs.State.{Message, ChainState}
use Rattle.ftc_protocol.specs.Next.{logs_sent}
use Rattle.ftc_ties.specs.Logs.{IsLogIn}
use Rattle.ftc_ties.specs.Messages.{AreLogsOf, AreNeedsOf, names_log, onward}
use Rattle.ftc_ties.proofs.Carrying.{logs_onward}
use Rattle.ftc_standing.specs.Stand.{AreForwarded}
use Rattle.ftc_standing.specs.View.{forwarded_at}

or_swap : (a b d : Bool) → (a || (b || d)) ≡ (b || (a || d))
or_swap true true d = refl
or_swap true false d = refl
or_swap false b d = refl

-- one is among the items where it was, and where it is the new one
pub any_with_item : {A : Type 0} (test : A → Bool) (is_before : A → A → Bool) (item : A) (others : List A) →
    list_any test (with_item is_before item others) ≡ (test item || list_any test others)
any_with_item test is_before item [] = refl
any_with_item test is_before item (other ∷ others) = elim (is_before other item) as (λ b.
    list_any test (if b then other ∷ with_item is_before item others else item ∷ other ∷ others)
    ≡ (test item || (test other || list_any test others))) [
      | true ↦ ap (λ x. test other || x) (any_with_item test is_before item others)
          ∙ or_swap (test other) (test item) (list_any test others)
      | false ↦ refl
    ]

pub any_with_items : {A : Type 0} (test : A → Bool) (is_before : A → A → Bool) (items others : List A) →
    list_any test (with_items is_before items others) ≡ (list_any test items || list_any test others)
any_with_items test is_before [] others = refl
any_with_items test is_before (item ∷ items) others =
    any_with_item test is_before item (with_items is_before items others)
    ∙ (ap (λ x. test item || x) (any_with_items test is_before items others)
    ∙ sym (or_assoc (test item) (list_any test items) (list_any test others)))

module _ (c : Setting) (s : ChainState) where
  -- logs that are put in order among others
  pub logs_among : (one other : Visits) (first second : List Logged) → AreLogsOf c s one first →
      AreLogsOf c s other second →
      AreLogsOf c s (λ group packet. other group packet || one group packet) (with_items is_earlier first second)
  logs_among one other first second are also = record {
    each = all-with_items (IsLogIn c.partitions s.trace) is_earlier first second are.each also.each;
    names = λ group packet. any_with_items (λ (log : Logged). log.group == group
        && log.origin == packet) is_earlier first second
        ∙ (or_comm (names_log first group packet) (names_log second group packet)
        ∙ (ap (λ x. x || names_log first group packet) (also.names group packet)
        ∙ ap (λ x. other group packet || x) (are.names group packet)));
  }

  -- the logs of a message that go on from a server, with those of the forwarder
  pub logs_leaving : (server : ℕ) (message : Message) (carried logs : List Logged) →
      AreForwarded c s server carried → AreLogsOf c s message.logs logs →
      AreLogsOf c s (logs_sent c s server message) (with_items is_earlier carried (onward c server logs))
  logs_leaving server message carried logs forwarded are = record {
    each = joined.each;
    names = λ group packet. joined.names group packet
        ∙ ap (λ x. (message.logs group packet && not (is_tail c group server)) || x) (at_first group packet);
  }
    where
      joined : AreLogsOf c s
          (λ group packet. (message.logs group packet && not (is_tail c group server))
          || forwarded_at s server group packet)
          (with_items is_earlier carried (onward c server logs))
      joined = logs_among (forwarded_at s server) (λ group packet. message.logs group packet
          && not (is_tail c group server))
          carried (onward c server logs) forwarded (logs_onward c s server message.logs logs are)

      at_first : (group packet : ℕ) → forwarded_at s server group packet ≡ ((server == 0) && s.forwarder group packet)
      at_first group packet = elim (server == 0) as (λ b.
          (if b then s.forwarder else no_visits) group packet ≡ (b && s.forwarder group packet)) [
            | true ↦ refl
            | false ↦ refl
          ]

  -- its needs: none behind the last server
  pub needs_leaving : (origin : ℕ) (last : Bool) (groups : ℕ → Bool) (needs : List Need) →
      AreNeedsOf c s origin groups needs →
      AreNeedsOf c s origin (λ group. not last && groups group) (if last then [] else needs)
  needs_leaving origin true groups needs are = record { each = tt; names = λ group. refl }
  needs_leaving origin false groups needs are = record { each = are.each; names = are.names }
