-- Logs and needs that rise: one more at the end, others put among them, and some left out.
use Rattle.std.proofs.Common.{◌≡◌, ℕ, ◌+◌, Bool, true, false, List, [], ◌∷◌, ◌++◌, Option, Some, None, refl}
use Rattle.std.proofs.Common.{ap, add-one, arith}
use Rattle.std.specs.Prelude.{nat_le, filter}
use Rattle.std.specs.List.Sorted.{ties}
use Rattle.std.proofs.lemmas.Bool.Decides.{nat_tests}
use Rattle.std.proofs.lemmas.List.Elements.{recursion_from_All}
use Rattle.ftc_base.proofs.EachOf.{all-weaker}
use Rattle.ftc_message.specs.declared.need.Need.{Need}
use Rattle.ftc_message.specs.Logged.{Logged, log_follows, logs_rise, needs_rise}
use Rattle.ftc_message.specs.Bounds.{IsLog, AreLogs, IsNeed, AreNeeds}
use Rattle.ftc_message.specs.Ordered.{with_item, with_items, is_earlier, is_log_of, HasNone, AreApart, is_lower}
use Rattle.ftc_message.specs.Ordered.{is_need_of, HasNoNeed, AreOfOthers}
use Rattle.ftc_message.specs.OrderLaws.{earlier_is_order, lower_is_order}
use Rattle.ftc_message.specs.Rises.{Rises, TieNone}
use Rattle.ftc_message.proofs.InOrder.{all-with_items, all-filter, rises-with_items, rises-filter}
use Rattle.ftc_message.proofs.Following.{GoesOn, end_of, rise-push, by_order, by_test}

-- ---- logs

abbrev pub place_of_log : Logged → Option (ℕ × ℕ)
place_of_log log = Some (log.origin, log.group)

abbrev pub follows_log : Option (ℕ × ℕ) → Logged → Bool
follows_log last log = log_follows last log.origin log.group

pub logs_go : GoesOn place_of_log follows_log logs_rise
logs_go = record { none = λ _. refl; next = λ _ _ _. refl }

pub logs_rise-push : (last : Option (ℕ × ℕ)) (logs : List Logged) (log : Logged) → logs_rise last logs ≡ true
    → log_follows (end_of place_of_log last logs) log.origin log.group ≡ true → logs_rise last (logs ++ log ∷ []) ≡ true
logs_rise-push = rise-push place_of_log follows_log logs_rise logs_go

pub logs_by_order : (logs : List Logged) → logs_rise None logs ≡ true → Rises is_earlier logs
logs_by_order = by_order place_of_log follows_log logs_rise logs_go is_earlier earlier_is_order (λ _ _. refl) None

logs_by_test : (logs : List Logged) → Rises is_earlier logs → logs_rise None logs ≡ true
logs_by_test logs =
    by_test place_of_log follows_log logs_rise logs_go is_earlier earlier_is_order (λ _ _. refl) None logs
    (recursion_from_All (λ _. true ≡ true) logs (λ _ _ _. refl))

log_apart : (log other : Logged) → is_log_of log.origin log.group other ≡ false → ties is_earlier log other ≡ false
log_apart log other apart = grind (arith, nat_tests, apart)

pub logs_apart : (logs others : List Logged) → AreApart logs others → TieNone is_earlier logs others
logs_apart logs others = all-weaker _ _ (λ log. all-weaker _ _ (log_apart log) others) logs

pub are_logs-with_items : (logs others : List Logged) → AreLogs logs → AreLogs others → AreApart logs others
    → AreLogs (with_items is_earlier logs others)
are_logs-with_items logs others are more apart = record {
  each = all-with_items IsLog is_earlier logs others are.each more.each;
  rising = logs_by_test (with_items is_earlier logs others) (rises-with_items is_earlier earlier_is_order logs others
      (logs_by_order logs are.rising) (logs_by_order others more.rising) (logs_apart logs others apart));
}

pub are_logs-with : (log : Logged) (logs : List Logged) → IsLog log → AreLogs logs → HasNone log logs
    → AreLogs (with_item is_earlier log logs)
are_logs-with log logs is are none = are_logs-with_items (log ∷ []) logs (record {
  each = (is, tt);
  rising = refl;
}) are (none, tt)

pub are_logs-filter : (test : Logged → Bool) (logs : List Logged) → AreLogs logs → AreLogs (filter test logs)
are_logs-filter test logs are = record {
  each = all-filter IsLog test logs are.each;
  rising = logs_by_test (filter test logs) (rises-filter is_earlier test logs (logs_by_order logs are.rising));
}

-- ---- needs

abbrev pub place_of_need : Need → ℕ
place_of_need need = need.group + 1

abbrev pub follows_need : ℕ → Need → Bool
follows_need from need = nat_le from need.group

pub needs_go : GoesOn place_of_need follows_need needs_rise
needs_go = record { none = λ _. refl; next = λ _ _ _. refl }

need_follows : (need next : Need) → follows_need (place_of_need need) next ≡ is_lower need next
need_follows need next = ap (λ (from : ℕ). nat_le from next.group) (add-one need.group)

pub needs_rise-push : (from : ℕ) (needs : List Need) (need : Need) → needs_rise from needs ≡ true
    → nat_le (end_of place_of_need from needs) need.group ≡ true → needs_rise from (needs ++ need ∷ []) ≡ true
needs_rise-push = rise-push place_of_need follows_need needs_rise needs_go

pub needs_by_order : (needs : List Need) → needs_rise 0 needs ≡ true → Rises is_lower needs
needs_by_order = by_order place_of_need follows_need needs_rise needs_go is_lower lower_is_order need_follows 0

needs_by_test : (needs : List Need) → Rises is_lower needs → needs_rise 0 needs ≡ true
needs_by_test needs =
    by_test place_of_need follows_need needs_rise needs_go is_lower lower_is_order need_follows 0 needs
    (recursion_from_All (λ need. nat_le 0 need.group ≡ true) needs (λ _ _ _. grind (arith, nat_tests)))

need_apart : (need other : Need) → is_need_of need.group other ≡ false → ties is_lower need other ≡ false
need_apart need other apart = grind (arith, nat_tests, apart)

pub needs_apart : (needs others : List Need) → AreOfOthers needs others → TieNone is_lower needs others
needs_apart needs others = all-weaker _ _ (λ need. all-weaker _ _ (need_apart need) others) needs

pub are_needs-with_items : (needs others : List Need) → AreNeeds needs → AreNeeds others → AreOfOthers needs others
    → AreNeeds (with_items is_lower needs others)
are_needs-with_items needs others are more apart = record {
  each = all-with_items IsNeed is_lower needs others are.each more.each;
  rising = needs_by_test (with_items is_lower needs others) (rises-with_items is_lower lower_is_order needs others
      (needs_by_order needs are.rising) (needs_by_order others more.rising) (needs_apart needs others apart));
}

pub are_needs-with : (need : Need) (needs : List Need) → IsNeed need → AreNeeds needs → HasNoNeed need needs
    → AreNeeds (with_item is_lower need needs)
are_needs-with need needs is are none = are_needs-with_items (need ∷ []) needs (record {
  each = (is, tt);
  rising = needs_by_test (need ∷ []) (tt, tt);
}) are (none, tt)

pub are_needs-filter : (test : Need → Bool) (needs : List Need) → AreNeeds needs → AreNeeds (filter test needs)
are_needs-filter test needs are = record {
  each = all-filter IsNeed test needs are.each;
  rising = needs_by_test (filter test needs) (rises-filter is_lower test needs (needs_by_order needs are.rising));
}
