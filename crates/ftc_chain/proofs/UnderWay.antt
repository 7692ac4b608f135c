-- The origins of the messages that servers hold and links have.
use Rattle.std.proofs.Common.{◌≡◌, ◌≢◌, ◌∙◌, ◌++◌, ◌+◌, ◌<◌, ◌≤◌, ◌==◌, ◌^◌, ◌⊎◌, ◌↔◌, ℕ, zero, suc, Bool, true, false}
use Rattle.std.proofs.Common.{List, [], ◌∷◌, map, length, Option, Some, None, inl, inr, refl, sym, ap, subst, arith}
use Rattle.std.proofs.Common.{length-append, eq-eqb, eqb-true, if◌then◌else◌}
use Rattle.std.specs.Prelude.{slice_index_or}
use Rattle.std.specs.List.{AllByRecursion}
use Rattle.std.proofs.lemmas.Bool.{cases_eq, true≢false}
use Rattle.std.proofs.lemmas.List.{length-map}
use Rattle.std.proofs.lemmas.Option.{none-some}
use Rattle.ftc_base.proofs.EachOf.{all-weaker, all-append, all-front, all-back, all_zip}
use Rattle.ftc_link.specs.Queue.{Queue}
use Rattle.ftc_message.specs.declared.message.Message.{Message as SentMessage}
use Rattle.ftc_serial.specs.Words.{AnyOf, EachLater}
use Rattle.ftc_ring.specs.Ring.{RingShape}
use Rattle.ftc_protocol.specs.Orderly.{IsOrderly, aim}
use Rattle.ftc_protocol.specs.Setting.{Setting, servers, count}
use Rattle.ftc_protocol.specs.State.{Where, Held, Queued, Message, ChainState}
use Rattle.ftc_server.specs.declared.server.Server.{Server}
use Rattle.ftc_serial.proofs.AnyOf.{any_front, any_behind, any_either}
use Rattle.ftc_standing.specs.Arrivals.{kept_of, IsKeptAs, IsSooner, AreArrived}
use Rattle.ftc_standing.specs.Stand.{HeldItem}
use Rattle.ftc_standing.specs.View.{where_it, is_held_by, is_queued_on, held_at, queued_on}
use Rattle.ftc_standing.proofs.Arriving.{behind}
use Rattle.ftc_standing.proofs.Arriving.{in_front, later_without}
use Rattle.ftc_jobs.proofs.Joined.{once_both}
use Rattle.ftc_refinement.specs.Contents.{item_of_held, items_of}
use Rattle.ftc_network.specs.declared.network.Network.{Network}
use Rattle.ftc_network.specs.Parts.{server_in, link_in}
use Rattle.ftc_network.specs.Stand.{IsSlot, IsNetwork}
use Rattle.ftc_chain.specs.Messages.{AreUnderWay, held_in, all_held, all_queued, messages_in}

-- ---- lists of numbers

abbrev pub IsIn : List ℕ → ℕ → Type 0
IsIn numbers number = AnyOf (λ (other : ℕ). other ≡ number) numbers

abbrev pub AreOnce : List ℕ → Type 0
AreOnce numbers = EachLater (λ (one other : ℕ). one ≢ other) numbers

-- a number stands in a list or doesn't
split_at : (number : ℕ) (numbers : List ℕ) →
    ((before : List ℕ) × (after : List ℕ) × (numbers ≡ before ++ number ∷ after))
    ⊎ AllByRecursion (λ (other : ℕ). other ≢ number) numbers
split_at number [] = inr tt
split_at number (first ∷ numbers) = elim (cases_eq first number) [
  | inl same ↦ inl ([], numbers, ap (λ (n : ℕ). n ∷ numbers) same)
  | inr differs ↦ elim (split_at number numbers) [
    | inl parts ↦ inl (first ∷ parts.0, parts.1, ap (λ (list : List ℕ). first ∷ list) parts.2)
    | inr none ↦ inr (differs, none)
  ]
]

less_of : (most number : ℕ) → number < suc most → number ≢ most → number < most
less_of most number below differs = omega (arith, below, differs)

-- different numbers below a count are no more than that
pub few_numbers : (most : ℕ) (numbers : List ℕ) → AreOnce numbers → AllByRecursion (λ (n : ℕ). n < most) numbers →
    length numbers ≤ most
few_numbers zero [] once below = omega arith
few_numbers zero (first ∷ numbers) once below = let none = below.0 in absurd (omega (arith, none))
few_numbers (suc most) numbers once below = elim (split_at most numbers) [
  | inr none ↦
      let fewer = few_numbers most numbers once
      (all_zip (λ (n : ℕ). n < suc most) (λ (n : ℕ). n ≢ most) (λ (n : ℕ). n < most)
      (less_of most) numbers below none) in
      omega (arith, fewer)
  | inl parts ↦
      let before = parts.0 in
      let after = parts.1 in
      let apart : AreOnce (before ++ most ∷ after) = subst AreOnce parts.2 once in
      let all : AllByRecursion (λ (n : ℕ). n < suc most) (before ++ most ∷ after) =
      subst (AllByRecursion (λ (n : ℕ). n < suc most)) parts.2 below in
      let others : AllByRecursion (λ (n : ℕ). n ≢ most) (before ++ after) =
      all-append (λ (n : ℕ). n ≢ most) before after
      (in_front (λ (one other : ℕ). one ≢ other) before most after apart)
      (all-weaker (λ (n : ℕ). most ≢ n) (λ (n : ℕ). n ≢ most) (λ n differs same. differs (sym same)) after
      (behind (λ (one other : ℕ). one ≢ other) before most after apart)) in
      let fewer = few_numbers most (before ++ after)
      (later_without (λ (one other : ℕ). one ≢ other) before most after apart)
      (all_zip (λ (n : ℕ). n < suc most) (λ (n : ℕ). n ≢ most) (λ (n : ℕ). n < most) (less_of most)
      (before ++ after)
      (all-append (λ (n : ℕ). n < suc most) before after (all-front (λ (n : ℕ). n < suc most) before (most ∷ after) all)
      (all-back (λ (n : ℕ). n < suc most) before (most ∷ after) all).1) others) in
      let size = ap (λ (list : List ℕ). length list) parts.2 in
      omega (arith, fewer, size, length-append before (most ∷ after), length-append before after)
]

-- ---- what came to one place

-- these are the numbers of which it is so, each once
pub record AreOrigins (Of : ℕ → Type 0) (origins : List ℕ) : Type 0 where
  pub each : (origin : ℕ) → IsIn origins origin ↔ Of origin
  pub once : AreOnce origins

module _ {M A : Type 0} (since : M → ℕ) (origin_of : A → ℕ) (Stands : ℕ → M → A → Type 0) (there : ℕ → Option M) where
  abbrev IsThere : ℕ → Type 0
  IsThere origin = (message : M) × (there origin ≡ Some message)

  kept_in : (items : List A) (origin : ℕ) → IsIn (map origin_of items) origin → kept_of origin_of origin items ≡ None →
      ⊥
  kept_in [] origin is none = is
  kept_in (item ∷ items) origin is none =
      elim (origin_of item == origin) as (λ b. origin_of item == origin ≡ b →
      (if b then Some item else kept_of origin_of origin items) ≡ None → ⊥) [
        | true ↦ λ same e. none-some item (sym e)
        | false ↦ λ differs e. elim is [
          | inl same ↦ true≢false (sym (eq-eqb (origin_of item) origin same) ∙ differs)
          | inr later ↦ kept_in items origin later e
        ]
      ] refl none

  in_kept : (items : List A) (origin : ℕ) (item : A) → kept_of origin_of origin items ≡ Some item →
      IsIn (map origin_of items) origin
  in_kept [] origin item is = absurd (none-some item is)
  in_kept (first ∷ items) origin item is =
      elim (origin_of first == origin) as (λ b. origin_of first == origin ≡ b →
      (if b then Some first else kept_of origin_of origin items) ≡ Some item →
      IsIn (map origin_of (first ∷ items)) origin) [
        | true ↦ λ same e. inl (eqb-true (origin_of first) origin same)
        | false ↦ λ differs e. inr (in_kept items origin item e)
      ] refl is

  there_of : (origin : ℕ) (o : Option M) (k : Option A) → IsKeptAs Stands origin o k → (k ≡ None → ⊥) →
      (message : M) × (o ≡ Some message)
  there_of origin None None kept some = absurd (some refl)
  there_of origin None (Some item) kept some = absurd kept
  there_of origin (Some message) k kept some = (message, refl)

  kept_where : (origin : ℕ) (o : Option M) (k : Option A) (message : M) → IsKeptAs Stands origin o k →
      o ≡ Some message →
      (item : A) × (k ≡ Some item)
  kept_where origin None k message kept is = absurd (none-some message is)
  kept_where origin (Some own) None message kept is = absurd kept
  kept_where origin (Some own) (Some item) message kept is = (item, refl)

  -- of two that are there and came one before the other the origins differ
  apart_of : (one other : ℕ) → IsThere one → IsSooner since there one other → one ≢ other
  apart_of one other is sooner same =
      let less = sooner is.0 is.0 is.1 (subst (λ (o : ℕ). there o ≡ Some is.0) same is.1) in omega (arith, less)

  origins_apart : (items : List A) → ((origin : ℕ) → IsIn (map origin_of items) origin → IsThere origin) →
      EachLater (λ earlier later. IsSooner since there (origin_of earlier) (origin_of later)) items →
      AreOnce (map origin_of items)
  origins_apart [] are order = tt
  origins_apart (item ∷ items) are order = (
    each_apart items order.0,
    origins_apart items (λ origin is. are origin (inr is)) order.1,
  )
    where
      each_apart : (others : List A) →
          AllByRecursion (λ (later : A). IsSooner since there (origin_of item) (origin_of later)) others →
          AllByRecursion (λ (n : ℕ). origin_of item ≢ n) (map origin_of others)
      each_apart [] sooner = tt
      each_apart (other ∷ others) sooner = (
        apart_of (origin_of item) (origin_of other) (are (origin_of item) (inl refl)) sooner.0,
        each_apart others sooner.1,
      )

  pub arrived_origins : (items : List A) → AreArrived since origin_of Stands there items →
      AreOrigins IsThere (map origin_of items)
  arrived_origins items are =
      let here : (origin : ℕ) → IsIn (map origin_of items) origin → IsThere origin =
      λ origin is. there_of origin (there origin) (kept_of origin_of origin items) (are.each origin)
      (kept_in items origin is) in
      record {
        each = λ origin. (
          here origin,
          λ is.
              let kept = kept_where origin (there origin) (kept_of origin_of origin items) is.0
              (are.each origin) is.1 in
              in_kept items origin kept.0 kept.1,
        );
        once = origins_apart items here are.order;
      }

-- ---- places one after another

abbrev flat : List (List ℕ) → List ℕ
flat [] = []
flat (numbers ∷ lists) = numbers ++ flat lists

-- from that place on these lists are the numbers of which it is so at their places
abbrev AreAt : (ℕ → ℕ → Type 0) → ℕ → List (List ℕ) → Type 0
AreAt At from [] = Unit {0}
AreAt At from (numbers ∷ lists) = AreOrigins (At from) numbers × AreAt At (suc from) lists

abbrev AtSome : (ℕ → ℕ → Type 0) → ℕ → ℕ → ℕ → Type 0
AtSome At from to origin = (place : ℕ) × (from ≤ place) × (place < to) × At place origin

all_at : (At : ℕ → ℕ → Type 0) → ((one other origin : ℕ) → At one origin → At other origin → one ≡ other) →
    (from : ℕ) (lists : List (List ℕ)) → AreAt At from lists →
    AreOrigins (AtSome At from (from + length lists)) (flat lists)
all_at At apart from [] at = record {
  each = λ origin. (
    (λ is. absurd is),
    (λ is. let more = is.1 in let less = is.2 in
        absurd (omega (arith, more, less))),
  );
  once = tt;
}
all_at At apart from (numbers ∷ lists) at =
    let first = at.0 in
    let later = all_at At apart (suc from) lists at.1 in
    record {
      each = λ origin. (
        (λ is. elim (any_either _ numbers (flat lists) is) [
          | inl here ↦ (from, omega arith, omega arith, (first.each origin).0 here)
          | inr there ↦
              let place = (later.each origin).0 there in
              let more = place.1 in
              let less = place.2 in
              (place.0, omega (arith, more), omega (arith, less), place.3)
        ]),
        (λ is.
            let more = is.1 in
            let less = is.2 in
            elim (cases_eq is.0 from) [
              | inl same ↦
                  any_front _ numbers (flat lists) ((first.each origin).1 (subst (λ (n : ℕ). At n origin) same is.3))
              | inr differs ↦ any_behind _ numbers (flat lists)
                  ((later.each origin).1 (is.0, omega (arith, more, differs), omega (arith, less), is.3))
            ]),
      );
      once = once_both numbers (flat lists) first.once later.once (λ n one other.
          let place = (later.each n).0 other in
          let more = place.1 in
          let same = apart from place.0 n ((first.each n).0 one) place.3 in
          omega (arith, more, same));
    }

-- where each item's numbers are those of its place, so it is with all
at_each : {A : Type 0} (At : ℕ → ℕ → Type 0) (numbers_of : A → List ℕ) (none : A) (from : ℕ) (items : List A) →
    ((number : ℕ) → number < length items →
    AreOrigins (At (from + number)) (numbers_of (slice_index_or items number none))) →
    AreAt At from (map numbers_of items)
at_each At numbers_of none from [] each = tt
at_each At numbers_of none from (item ∷ items) each =
    let here : from + 0 ≡ from = omega arith in (
      subst (λ (n : ℕ). AreOrigins (At n) (numbers_of item)) here (each 0 (omega arith)),
      at_each At numbers_of none (suc from) items (λ number below.
          let next : from + suc number ≡ suc from + number = omega arith in
          subst (λ (n : ℕ). AreOrigins (At n) (numbers_of (slice_index_or items number none))) next
          (each (suc number) (omega (arith, below)))),
    )

-- and so it is with as many items as there are places
all_of : {A : Type 0} (At : ℕ → ℕ → Type 0) → ((one other origin : ℕ) → At one origin → At other origin → one ≡ other) →
    (numbers_of : A → List ℕ) (none : A) (items : List A) (places : ℕ) → length items ≡ places →
    ((number : ℕ) → number < places → AreOrigins (At number) (numbers_of (slice_index_or items number none))) →
    AreOrigins (AtSome At 0 (0 + length (map numbers_of items))) (flat (map numbers_of items))
all_of At apart numbers_of none items places size each =
    all_at At apart 0 (map numbers_of items)
    (at_each At numbers_of none 0 items (λ number below.
    let same : number ≡ 0 + number = omega arith in
    subst (λ (n : ℕ). AreOrigins (At n) (numbers_of (slice_index_or items number none))) same
    (each number (omega (arith, below, size)))))

-- ---- servers and links

there_where : (test : Where → Bool) (o : Option Message) (message : Message) → where_it test o ≡ Some message →
    (o ≡ Some message) × (test message.place ≡ true)
there_where test None message is = absurd (none-some message is)
there_where test (Some own) message is =
    elim (test own.place) as (λ b. test own.place ≡ b → (if b then Some own else None) ≡ Some message →
    (Some own ≡ Some message) × (test message.place ≡ true)) [
      | true ↦ λ at e. (e, subst (λ (o : Option Message). so_of test o ≡ true) e at)
      | false ↦ λ at e. absurd (none-some message e)
    ] refl is
  where
    so_of : (Where → Bool) → Option Message → Bool
    so_of test None = false
    so_of test (Some message) = test message.place

where_there : (test : Where → Bool) (o : Option Message) (message : Message) → o ≡ Some message →
    test message.place ≡ true → where_it test o ≡ Some message
where_there test o message there at = ap (where_it test) there ∙ ap (λ b. if b then Some message else None) at

same_message : (o : Option Message) (one other : Message) → o ≡ Some one → o ≡ Some other → one ≡ other
same_message o one other is also = let same = sym is ∙ also in cc

same_holder : (one other : ℕ) (place : Where) → is_held_by one place ≡ true → is_held_by other place ≡ true →
    one ≡ other
same_holder one other (Held holder visited by_ring) is also = sym (eqb-true holder one is) ∙ eqb-true holder other also
same_holder one other (Queued link) is also = absurd cc

same_queue : (one other : ℕ) (place : Where) → is_queued_on one place ≡ true → is_queued_on other place ≡ true →
    one ≡ other
same_queue one other (Held holder visited by_ring) is also = absurd cc
same_queue one other (Queued link) is also = sym (eqb-true link one is) ∙ eqb-true link other also

not_both : (holder link : ℕ) (place : Where) → is_held_by holder place ≡ true → is_queued_on link place ≡ true → ⊥
not_both holder link (Held server visited by_ring) is also = absurd cc
not_both holder link (Queued other) is also = absurd cc

module _ (setting : Setting) (state : ChainState) (order : IsOrderly setting state) where
  abbrev IsHeldAt : ℕ → ℕ → Type 0
  IsHeldAt server origin = (message : Message) × (held_at state server origin ≡ Some message)

  abbrev IsQueuedOn : ℕ → ℕ → Type 0
  IsQueuedOn link origin = (message : Message) × (queued_on state link origin ≡ Some message)

  abbrev held_origins : Option Server → List ℕ
  held_origins slot = map (λ (item : HeldItem). item.message.origin) (items_of (held_in slot))

  abbrev queued_origins : Queue → List ℕ
  queued_origins queue = map (λ (sent : SentMessage). sent.origin) queue.messages

  up_where_held : (server origin : ℕ) → IsHeldAt server origin → state.up server ≡ true
  up_where_held server origin is =
      let there = there_where (is_held_by server) (state.message origin) is.0 is.1 in
      up_at (is.0).place there.1 (order.awake origin is.0 there.0)
    where
      up_at : (place : Where) → is_held_by server place ≡ true →
          state.up (aim (servers setting) place) ≡ true → state.up server ≡ true
      up_at (Held holder visited by_ring) at up = subst (λ (n : ℕ). state.up n ≡ true) (eqb-true holder server at) up
      up_at (Queued link) at up = absurd cc

  held_of_slot : (server : ℕ) (slot : Option Server) → IsSlot setting state server slot →
      AreOrigins (IsHeldAt server) (held_origins slot)
  held_of_slot server None down = record {
    each = λ origin. ((λ is. absurd is), (λ is. absurd (true≢false (sym (up_where_held server origin is) ∙ down))));
    once = tt;
  }
  held_of_slot server (Some live) up = arrived_origins _ _ _ _ (items_of live.held.items) up.at.stands.held

  -- places at which one message is are one, where a test says at which place it is
  one_place : (test : ℕ → Where → Bool) → ((one other : ℕ) (place : Where) → test one place ≡ true →
      test other place ≡ true → one ≡ other) → (one other origin : ℕ) →
      (message : Message) × (where_it (test one) (state.message origin) ≡ Some message) →
      (message : Message) × (where_it (test other) (state.message origin) ≡ Some message) → one ≡ other
  one_place test same_place one other origin is also =
      let first = there_where (test one) (state.message origin) is.0 is.1 in
      let second = there_where (test other) (state.message origin) also.0 also.1 in
      let same = same_message (state.message origin) is.0 also.0 first.0 second.0 in
      same_place one other (is.0).place first.1
      (subst (λ (m : Message). test other m.place ≡ true) (sym same) second.1)

  held_size : (slots : List (Option Server)) → length (flat (map held_origins slots)) ≡ all_held slots
  held_size [] = refl
  held_size (slot ∷ slots) =
      let origins = length-append (held_origins slot) (flat (map held_origins slots)) in
      let mapped = length-map (items_of (held_in slot)) (λ (item : HeldItem). item.message.origin) in
      let items = length-map (held_in slot) item_of_held in
      let rest = held_size slots in
      omega (arith, origins, mapped, items, rest)

  queued_size : (links : List Queue) → length (flat (map queued_origins links)) ≡ all_queued links
  queued_size [] = refl
  queued_size (queue ∷ links) =
      let origins = length-append (queued_origins queue) (flat (map queued_origins links)) in
      let mapped = length-map queue.messages (λ (sent : SentMessage). sent.origin) in
      let rest = queued_size links in
      omega (arith, origins, mapped, rest)

  module _ (network : Network) (is : IsNetwork setting state network) where
    held_all : AreOrigins (AtSome IsHeldAt 0 (0 + length (map held_origins network.servers.items)))
        (flat (map held_origins network.servers.items))
    held_all =
        all_of IsHeldAt (one_place is_held_by same_holder) held_origins None network.servers.items (servers setting)
        (network.each_server ∙ ap (λ (ring : RingShape). ring.servers) is.ring)
        (λ number below. held_of_slot number (server_in network.servers.items number) (is.servers_are number below))

    queued_all : AreOrigins (AtSome IsQueuedOn 0 (0 + length (map queued_origins network.links.items)))
        (flat (map queued_origins network.links.items))
    queued_all =
        all_of IsQueuedOn (one_place is_queued_on same_queue) queued_origins
        (record { from = 0; messages = []; gap = false }) network.links.items (servers setting)
        (network.each_link ∙ ap (λ (ring : RingShape). ring.servers) is.ring)
        (λ number below. arrived_origins _ _ _ _ (link_in network.links.items number).messages
        (is.links_are number below).queued)

    in_all : (origin : ℕ) (message : Message) (place : Where) → state.message origin ≡ Some message →
        message.place ≡ place →
        IsIn (flat (map held_origins network.servers.items) ++ flat (map queued_origins network.links.items)) origin
    in_all origin message (Held server visited by_ring) there at =
        let size = ap (λ (ring : RingShape). ring.servers) is.ring in
        let test = ap (is_held_by server) at ∙ eq-eqb server server refl in
        let held : IsHeldAt server origin =
        (message, where_there (is_held_by server) (state.message origin) message there test) in
        let below = order.inside server (up_where_held server origin held) in
        any_front _ (flat (map held_origins network.servers.items)) (flat (map queued_origins network.links.items))
        ((held_all.each origin).1 (
          server,
          omega arith,
          omega (arith, below, size, network.each_server, length-map network.servers.items held_origins),
          held,
        ))
    in_all origin message (Queued link) there at =
        let size = ap (λ (ring : RingShape). ring.servers) is.ring in
        let test = ap (is_queued_on link) at ∙ eq-eqb link link refl in
        let below = order.links origin link message there at in
        any_behind _ (flat (map held_origins network.servers.items)) (flat (map queued_origins network.links.items))
        ((queued_all.each origin).1 (
          link,
          omega arith,
          omega (arith, below, size, network.each_link, length-map network.links.items queued_origins),
          (message, where_there (is_queued_on link) (state.message origin) message there test),
        ))

    -- the count of servers and links is that of the state
    pub under_way : AreUnderWay state (messages_in network)
    under_way =
        let held = flat (map held_origins network.servers.items) in
        let queued = flat (map queued_origins network.links.items) in
        record {
          origins = held ++ queued;
          each = λ origin. (
            (λ there. elim (any_either _ held queued there) [
              | inl one ↦
                  let at = (held_all.each origin).0 one in
                  ((at.3).0, (there_where (is_held_by at.0) (state.message origin) (at.3).0 (at.3).1).0)
              | inr other ↦
                  let at = (queued_all.each origin).0 other in
                  ((at.3).0, (there_where (is_queued_on at.0) (state.message origin) (at.3).0 (at.3).1).0)
            ]),
            (λ there. in_all origin there.0 (there.0).place there.1 refl),
          );
          once = once_both held queued held_all.once queued_all.once (λ origin one other.
              let at = (held_all.each origin).0 one in
              let on = (queued_all.each origin).0 other in
              let first = there_where (is_held_by at.0) (state.message origin) (at.3).0 (at.3).1 in
              let second = there_where (is_queued_on on.0) (state.message origin) (on.3).0 (on.3).1 in
              let same = same_message (state.message origin) (at.3).0 (on.3).0 first.0 second.0 in
              not_both at.0 on.0 ((at.3).0).place first.1
              (subst (λ (m : Message). is_queued_on on.0 m.place ≡ true) (sym same) second.1));
          count_is = length-append held queued ∙ ap2 (held_size network.servers.items)
              (queued_size network.links.items);
        }
      where
        ap2 : {a b x y : ℕ} → a ≡ x → b ≡ y → a + b ≡ x + y
        ap2 one other = omega (arith, one, other)

-- ---- there are few

pub all_in : (P : ℕ → Type 0) (numbers : List ℕ) → ((number : ℕ) → IsIn numbers number → P number) →
    AllByRecursion P numbers
all_in P [] each = tt
all_in P (number ∷ numbers) each = (each number (inl refl), all_in P numbers (λ n is. each n (inr is)))

pub few_under_way : (setting : Setting) (state : ChainState) (size : ℕ) → IsOrderly setting state →
    AreUnderWay state size → size ≤ count setting + state.propagates
few_under_way setting state size order are =
    let most = count setting + state.propagates in
    let few = few_numbers most are.origins are.once (all_in (λ (n : ℕ). n < most) are.origins (λ origin is.
    let there = (are.each origin).0 is in below origin (order.numbered origin there.0 there.1))) in
    omega (arith, few, are.count_is)
  where
    below : (origin : ℕ) →
        (origin < state.entered) ⊎ ((count setting ≤ origin) × (origin < count setting + state.propagates)) →
        origin < count setting + state.propagates
    below origin (inl entered) = let all = order.entered in omega (arith, entered, all)
    below origin (inr begun) = begun.1

-- so few that a count of 64 bits has room
pub room_for_all : (setting : Setting) (state : ChainState) (network : Network) → IsOrderly setting state →
    IsNetwork setting state network → count setting + state.propagates < 2 ^ 32 → messages_in network < 2 ^ 64
room_for_all setting state network order stands room =
    let few = few_under_way setting state (messages_in network) order (under_way setting state order network stands) in
    omega (arith, few, room)
