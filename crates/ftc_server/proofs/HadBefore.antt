-- What is noted as had: what comes next stands behind it, and it is had still as replicas grow and messages come,
-- change and go.
use Rattle.std.proofs.Common.{◌≡◌, ◌≢◌, ◌∙◌, ◌++◌, ◌&&◌, ◌||◌, ◌⊎◌, not, ℕ, suc, zero, Bool, true, false, List, [], ◌∷◌}
use Rattle.std.proofs.Common.{Option, Some, refl, sym, ap, cond, inl, inr, take, drop}
use Rattle.std.specs.Prelude.{◌==◌, is_some}
use Rattle.std.specs.List.{list_all, list_any}
use Rattle.std.proofs.lemmas.Bool.{eqb-true, eq-eqb, false≢true, not-true, or_left, and_parts}
use Rattle.std.proofs.lemmas.Option.{same_Some}
use Rattle.ftc_message.specs.Logged.{Logged}
use Rattle.ftc_replica.specs.Held.{Held}
use Rattle.ftc_server.specs.declared.held.HeldMessage.{HeldMessage}
use Rattle.ftc_server.specs.declared.visited.Visited.{Visited}
use Rattle.ftc_server.specs.Holding.{found, is_held, noted, origins_of, with_changed, without}
use Rattle.ftc_server.specs.Replicas.{has_first, is_had, may_apply}
use Rattle.ftc_server.specs.Tickets.{AreDistinct}
use Rattle.ftc_server.specs.Visited.{visited_by}
use Rattle.ftc_server.specs.Waiting.{AreHadBefore, is_ahead, is_had_or_ahead, is_idle}
use Rattle.ftc_server.specs.Work.{is_packet_of, next_log}
use Rattle.ftc_server.proofs.Finding.{found_changed, found_without}
use Rattle.ftc_server.proofs.Grown.{AreGrown, had_still}
use Rattle.ftc_server.proofs.Lacking.{ahead_is_lacking}
use Rattle.ftc_server.proofs.StillWatched.{isnt_it, which}
use Rattle.ftc_server.proofs.ListTests.{implies_all}

-- ---- what comes next stands behind the logs that are had

pub rest_next : (replicas : List (Option Held)) (waiting : Option ℕ) (count : ℕ) (logs : List Logged) →
    has_first replicas count logs ≡ true →
    next_log replicas waiting (drop count logs) ≡ next_log replicas waiting logs
rest_next replicas waiting zero logs had = refl
rest_next replicas waiting (suc n) [] had = refl
rest_next replicas waiting (suc n) (log ∷ logs) had =
    let parts = and_parts (is_had replicas log) (has_first replicas n logs) had in
    rest_next replicas waiting n logs parts.1
    ∙ ap (λ (b : Bool). cond b (next_log replicas waiting logs)
    (cond (is_packet_of waiting log) (next_log replicas waiting logs)
    (cond (may_apply replicas log) (Some log) (next_log replicas (Some log.origin) logs)))) (sym parts.0)

pub rest_all : {A : Type 0} (test : A → Bool) (count : ℕ) (items : List A) → list_all test (take count items) ≡ true →
    list_all test (drop count items) ≡ list_all test items
rest_all test zero items all = refl
rest_all test (suc n) [] all = refl
rest_all test (suc n) (item ∷ items) all =
    let parts = and_parts (test item) (list_all test (take n items)) all in
    rest_all test n items parts.1 ∙ ap (λ (b : Bool). b && list_all test items) (sym parts.0)

rest_any : {A : Type 0} (test : A → Bool) (count : ℕ) (items : List A) →
    list_all (λ item. not (test item)) (take count items) ≡ true →
    list_any test (drop count items) ≡ list_any test items
rest_any test zero items none = refl
rest_any test (suc n) [] none = refl
rest_any test (suc n) (item ∷ items) none =
    let parts = and_parts (not (test item)) (list_all (λ i. not (test i)) (take n items)) none in
    rest_any test n items parts.1 ∙ ap (λ (b : Bool). b || list_any test items) (sym (not-true (test item) parts.0))

not_ahead : (replicas : List (Option Held)) (log : Logged) → is_had replicas log ≡ true →
    not (is_ahead replicas log) ≡ true
not_ahead replicas log had =
    elim (is_ahead replicas log) as (λ t. is_ahead replicas log ≡ t → not t ≡ true) [
      | true ↦ λ ahead. absurd (false≢true (sym (ahead_is_lacking replicas log ahead) ∙ had))
      | false ↦ λ _. refl
    ] refl

pub rest_idle : (replicas : List (Option Held)) (count : ℕ) (logs : List Logged) →
    has_first replicas count logs ≡ true → is_idle replicas (drop count logs) ≡ is_idle replicas logs
rest_idle replicas count logs had =
    let none = implies_all (is_had replicas) (λ (log : Logged). not (is_ahead replicas log)) (take count logs)
    (not_ahead replicas) had in
    let each = implies_all (is_had replicas) (is_had_or_ahead replicas) (take count logs)
    (λ (log : Logged) is. or_left (is_had replicas log) (is_ahead replicas log) is) had in
    ap (λ (b : Bool). b && list_all (is_had_or_ahead replicas) (drop count logs))
    (rest_any (is_ahead replicas) count logs none)
    ∙ ap (λ (b : Bool). list_any (is_ahead replicas) logs && b)
    (rest_all (is_had_or_ahead replicas) count logs each)

-- ---- it is had still

-- so many of the first logs are had, where it is the same number
pub as_many : (replicas : List (Option Held)) (held : HeldMessage) (count later : ℕ) → later ≡ count →
    has_first replicas count held.message.logs ≡ true → has_first replicas later held.message.logs ≡ true
as_many replicas held count later same is = ap (λ (n : ℕ). has_first replicas n held.message.logs) same ∙ is

pub none_noted : (replicas : List (Option Held)) (items : List HeldMessage) (had : List (ℕ × ℕ)) →
    ((packet : ℕ) → noted packet had ≡ 0) → AreHadBefore replicas items had
none_noted replicas items had none = λ packet held there. as_many replicas held 0 (noted packet had) (none packet) refl

pub had_same : (replicas : List (Option Held)) (items now : List HeldMessage) (had later : List (ℕ × ℕ)) → now ≡ items →
    later ≡ had → AreHadBefore replicas items had → AreHadBefore replicas now later
had_same replicas items now had later same_items same is = λ packet held there.
    as_many replicas held (noted packet had) (noted packet later) (ap (noted packet) same)
    (is packet held (sym (ap (found packet) same_items) ∙ there))

pub had_grown : (old new : List (Option Held)) (items : List HeldMessage) (had : List (ℕ × ℕ)) → AreGrown old new →
    AreHadBefore old items had → AreHadBefore new items had
had_grown old new items had grown is = λ packet held there.
    implies_all (is_had old) (is_had new) (take (noted packet had) held.message.logs)
    (λ (log : Logged) before. had_still old new log grown before) (is packet held there)

pub had_taken : (replicas : List (Option Held)) (items now : List HeldMessage) (had later : List (ℕ × ℕ))
    (held : HeldMessage) → now ≡ items ++ held ∷ [] → is_held held.message.origin items ≡ false →
    noted held.message.origin later ≡ 0 →
    ((other : ℕ) → other ≢ held.message.origin → noted other later ≡ noted other had) →
    AreHadBefore replicas items had → AreHadBefore replicas now later
had_taken replicas items now had later held now_is new unseen same is = λ packet other there.
    which (has_first replicas (noted packet later) other.message.logs ≡ true) items held other packet
    (sym (ap (found packet) now_is) ∙ there)
    (λ before. as_many replicas other (noted packet had) (noted packet later)
    (same packet (λ e. false≢true (sym new ∙ (ap (λ (p : ℕ). is_held p items) (sym e)
    ∙ ap (λ (f : Option HeldMessage). is_some f) before)))) (is packet other before))
    (λ last. as_many replicas other 0 (noted packet later)
    (ap (λ (p : ℕ). noted p later) (sym last.origin_is) ∙ unseen) refl)

pub had_left : (replicas : List (Option Held)) (items now : List HeldMessage) (had later : List (ℕ × ℕ)) (origin : ℕ) →
    now ≡ without origin items → AreDistinct (origins_of items) →
    ((other : ℕ) → other ≢ origin → noted other later ≡ noted other had) → AreHadBefore replicas items had →
    AreHadBefore replicas now later
had_left replicas items now had later origin now_is distinct same is = λ packet held there.
    let left = sym (ap (found packet) now_is) ∙ there in
    let differs = isnt_it origin packet items held distinct left in
    as_many replicas held (noted packet had) (noted packet later) (same packet differs)
    (is packet held (sym (found_without origin packet items differs) ∙ left))

pub had_visited : (replicas : List (Option Held)) (items now : List HeldMessage) (had later : List (ℕ × ℕ)) (packet : ℕ)
    (visited : Visited) → now ≡ with_changed packet (visited_by visited) items → noted packet later ≡ 0 →
    ((other : ℕ) → other ≢ packet → noted other later ≡ noted other had) → AreHadBefore replicas items had →
    AreHadBefore replicas now later
had_visited replicas items now had later packet visited now_is unseen same is = λ other held there.
    elim (other == packet) as (λ t. (other == packet) ≡ t →
    has_first replicas (noted other later) held.message.logs ≡ true) [
      | true ↦ λ it. as_many replicas held 0 (noted other later)
          (ap (λ (p : ℕ). noted p later) (eqb-true other packet it) ∙ unseen) refl
      | false ↦ λ isnt.
          let differs : other ≢ packet = λ e. false≢true (sym isnt ∙ eq-eqb other packet e) in
          as_many replicas held (noted other had) (noted other later) (same other differs)
          (is other held (sym (found_changed packet other (visited_by visited) items (λ h. refl) differs)
          ∙ (sym (ap (found other) now_is) ∙ there)))
    ] refl

-- the number of one message is another
pub had_noted : (replicas : List (Option Held)) (items : List HeldMessage) (had later : List (ℕ × ℕ)) (origin count : ℕ)
    (held : HeldMessage) → found origin items ≡ Some held → has_first replicas count held.message.logs ≡ true →
    ((other : ℕ) → (noted other later ≡ noted other had) ⊎ ((other ≡ origin) × (noted other later ≡ count))) →
    AreHadBefore replicas items had → AreHadBefore replicas items later
had_noted replicas items had later origin count held there counts change is = λ packet other there_too.
    elim (change packet) [
      | inl same ↦ as_many replicas other (noted packet had) (noted packet later) same (is packet other there_too)
      | inr it ↦
          let e : held ≡ other = same_Some held other
          (sym there ∙ (ap (λ (p : ℕ). found p items) (sym it.0) ∙ there_too)) in
          as_many replicas other count (noted packet later) it.1
          (ap (λ (h : HeldMessage). has_first replicas count h.message.logs) (sym e) ∙ counts)
    ]
