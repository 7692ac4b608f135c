-- Answers that came in turn, and that a store has, are those of a visit over this store.
use Rattle.std.proofs.Common.{◌≡◌, ◌<◌, ◌+◌, ◌∙◌, ℕ, zero, suc, List, [], ◌∷◌, ◌++◌, length, refl, sym, ap, subst}
use Rattle.std.proofs.Common.{arith, append_assoc, append-nil}
use Rattle.std.proofs.lemmas.List.{length-append}
use Rattle.std.specs.Prelude.{Bool}
use Rattle.std.specs.List.{AllByRecursion}
use Rattle.std.specs.FinMap.{get}
use Rattle.ftc_base.specs.declared.limits.TheConstants.{MOST_READS}
use Rattle.ftc_base.specs.declared.ask.Answer.{Answer}
use Rattle.ftc_base.specs.declared.ask.Ask.{Ask}
use Rattle.ftc_base.specs.declared.ask.Ask.TheVariants.{Read, Finish}
use Rattle.ftc_base.specs.declared.ask.Finish.{Finish as End}
use Rattle.ftc_mbox.specs.declared.rule.Rule.{Rule}
use Rattle.ftc_mbox.specs.Ask.{ask}
use Rattle.ftc_mbox.specs.InTurn.{Asks, AllInTurn, InTurn, ComesNext}
use Rattle.ftc_mbox.proofs.InTurn.{in_turn}
use Rattle.ftc_store.specs.Store.{Content}
use Rattle.ftc_serial.specs.declared.visit.Asked.{Asked}
use Rattle.ftc_mbox.specs.Change.{packet_after}
use Rattle.ftc_serial.specs.Take.{asked_from, asked, answer_at, stopped, ended, taken}

one_answer : (content : Content) (answer : Answer) → get content answer.key ≡ answer.value
    → answer_at content answer.key ≡ answer
one_answer content answer current = λ i. record { key = answer.key; value = current i }

-- what asks for a key is a read of it
pub read_of : (key : List ℕ) (next : Ask) → Asks key next → (change : Bool) × (next ≡ Read key change)
read_of key (Read other change) same = (change, ap (λ (k : List ℕ). Read k change) same)
read_of key (Finish end) none = absurd none

-- one more answer in turn
one_more : (asks : List Answer → Ask) (answers : List Answer) (answer : Answer) → AllInTurn asks answers
    → Asks answer.key (asks answers) → AllInTurn asks (answers ++ answer ∷ [])
one_more asks [] answer turn asked = (asked, tt)
one_more asks (first ∷ answers) answer turn asked =
    (turn.0, one_more (λ more. asks (first ∷ more)) answers answer turn.1 asked)

-- answers after which the rule reads once more are fewer than a visit may have
fewer : (rule : Rule) (packet : List ℕ) (answers : List Answer) (key : List ℕ) (change : Bool) →
    InTurn rule packet answers
    → ask rule packet answers ≡ Read key change → length answers < MOST_READS
fewer rule packet answers key change turn reads =
    (subst (ComesNext (ask rule packet) answers) reads (in_turn rule packet answers turn)).0

-- the other answers, after those so far
abbrev pub AreLater : Rule → List ℕ → List Answer → List Answer → Type 0
AreLater rule packet so_far rest = AllInTurn (λ more. ask rule packet (so_far ++ more)) rest

pub next_asked : (rule : Rule) (packet : List ℕ) (so_far : List Answer) (answer : Answer) (rest : List Answer)
    → AreLater rule packet so_far (answer ∷ rest) → Asks answer.key (ask rule packet so_far)
next_asked rule packet so_far answer rest later =
    subst (λ (answers : List Answer). Asks answer.key (ask rule packet answers)) (append-nil so_far) later.0

pub later_still : (rule : Rule) (packet : List ℕ) (so_far : List Answer) (answer : Answer) (rest : List Answer)
    → AreLater rule packet so_far (answer ∷ rest) → AreLater rule packet (so_far ++ answer ∷ []) rest
later_still rule packet so_far answer rest later =
    subst (λ (asks : List Answer → Ask). AllInTurn asks rest)
    (λ i more. ask rule packet (sym (append_assoc so_far (answer ∷ []) more) i)) later.1

-- how the rule goes on where it is asked after the answers so far
abbrev going_on : Rule → List ℕ → Content → ℕ → List Answer → Ask → Asked
going_on rule packet content left so_far next =
    elim next [
      | Read key change ↦ asked_from rule packet content left (so_far ++ answer_at content key ∷ [])
      | Finish end ↦ ended so_far end
    ]

pub answered : (rule : Rule) (packet : List ℕ) (content : Content) (end : End) (rest : List Answer) (left : ℕ)
    (so_far : List Answer) → length so_far + left ≡ MOST_READS → InTurn rule packet so_far →
    AreLater rule packet so_far rest
    → AllByRecursion (λ (answer : Answer). get content answer.key ≡ answer.value) rest
    → ask rule packet (so_far ++ rest) ≡ Finish end
    → asked_from rule packet content left so_far ≡ ended (so_far ++ rest) end
unfolding asked_from
answered rule packet content end [] zero so_far few turn later current finish =
    ap (stopped so_far) (ap (ask rule packet) (sym (append-nil so_far)) ∙ finish)
    ∙ ap (λ (xs : List Answer). ended xs end) (sym (append-nil so_far))
answered rule packet content end [] (suc left) so_far few turn later current finish =
    ap (going_on rule packet content left so_far) (ap (ask rule packet) (sym (append-nil so_far)) ∙ finish)
    ∙ ap (λ (xs : List Answer). ended xs end) (sym (append-nil so_far))
answered rule packet content end (answer ∷ rest) zero so_far few turn later current finish =
    let reads = read_of answer.key (ask rule packet so_far) (next_asked rule packet so_far answer rest later) in
    let under = fewer rule packet so_far answer.key reads.0 turn reads.1 in
    absurd (omega (arith, few, under))
answered rule packet content end (answer ∷ rest) (suc left) so_far few turn later current finish =
    let asks = next_asked rule packet so_far answer rest later in
    let reads = read_of answer.key (ask rule packet so_far) asks in
    let joined : (so_far ++ answer ∷ []) ++ rest ≡ so_far ++ answer ∷ rest = append_assoc so_far (answer ∷ []) rest in
    let long : length (so_far ++ answer ∷ []) + left ≡ MOST_READS =
    grind (arith, length-append so_far (answer ∷ []), few) in
    ap (going_on rule packet content left so_far) reads.1
    ∙ (ap (λ (a : Answer). asked_from rule packet content left (so_far ++ a ∷ [])) (one_answer content answer current.0)
    ∙ (answered rule packet content end rest left (so_far
    ++ answer ∷ []) long (one_more (ask rule packet) so_far answer turn asks)
    (later_still rule packet so_far answer rest later) current.1 (ap (ask rule packet) joined ∙ finish)
    ∙ ap (λ (xs : List Answer). ended xs end) joined))

-- so the visit's outcome is theirs
pub outcome_in_turn : (rule : Rule) (packet : List ℕ) (content : Content) (end : End) (answers : List Answer)
    → InTurn rule packet answers → AllByRecursion (λ (answer : Answer). get content answer.key ≡ answer.value) answers
    → ask rule packet answers ≡ Finish end
    → taken rule packet content ≡ record {
      answers = answers;
      writes = end.writes.items;
      packet = packet_after packet end.verdict;
    }
unfolding asked
outcome_in_turn rule packet content end answers turn current finish =
    ap (λ (told : Asked). record {
      answers = told.answers.items;
      writes = told.end.writes.items;
      packet = packet_after packet told.end.verdict;
    })
    (answered rule packet content end answers MOST_READS [] refl tt turn current finish)
