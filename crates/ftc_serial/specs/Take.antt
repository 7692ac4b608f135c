-- What one visit reads, writes and decides.
use Rattle.std.specs.Prelude.{ℕ, zero, suc, List, [], ◌∷◌, ◌++◌, Option}
use Rattle.std.specs.FinMap.{get}
use Rattle.ftc_base.specs.declared.limits.TheConstants.{MOST_READS}
use Rattle.ftc_base.specs.declared.ask.Answer.{Answer}
use Rattle.ftc_base.specs.declared.ask.Write.{Write}
use Rattle.ftc_base.specs.declared.ask.Ask.{Ask}
use Rattle.ftc_base.specs.declared.ask.Ask.TheVariants.{Read, Finish}
use Rattle.ftc_base.specs.declared.ask.Finish.{Finish as End}
use Rattle.ftc_base.specs.declared.ask.Verdict.TheVariants.{Filter}
use Rattle.ftc_mbox.specs.declared.rule.Rule.{Rule}
use Rattle.ftc_mbox.specs.Ask.{ask}
use Rattle.ftc_mbox.specs.Change.{packet_after}
use Rattle.ftc_store.specs.Store.{Content}
use Rattle.ftc_serial.specs.declared.visit.Asked.{Asked}

-- what the store has at a key
abbrev pub answer_at : Content → List ℕ → Answer
answer_at content key = record { key = key; value = get content key }

abbrev pub ended : List Answer → End → Asked
ended answers end = record { answers = record { items = answers }; end = end }

-- A rule that would read once more than it may is stopped: the packet is dropped, and nothing is written.
abbrev pub stopped : List Answer → Ask → Asked
stopped answers (Read key change) = ended answers (record { writes = record { items = [] }; verdict = Filter })
stopped answers (Finish end) = ended answers end

-- The rule is asked in turn, after these answers, with at most so many reads. To each read the store's value is added.
unfoldable pub asked_from : Rule → List ℕ → Content → ℕ → List Answer → Asked
asked_from rule packet content zero answers = stopped answers (ask rule packet answers)
asked_from rule packet content (suc left) answers =
    elim (ask rule packet answers) [
      | Read key change ↦ asked_from rule packet content left (answers ++ answer_at content key ∷ [])
      | Finish end ↦ ended answers end
    ]

-- It begins with no answers.
unfoldable pub asked : Rule → List ℕ → Content → Asked
asked rule packet content = asked_from rule packet content MOST_READS []

-- What a visit does: what it read, what it wrote, and the packet's bytes after it, none where the packet is dropped.
pub record Outcome : Type 0 where
  pub answers : List Answer
  pub writes : List Write
  pub packet : Option (List ℕ)

-- The visit of a packet at a middlebox of this rule, over this store.
abbrev pub taken : Rule → List ℕ → Content → Outcome
taken rule packet content =
    let told = asked rule packet content in
    record {
      answers = told.answers.items;
      writes = told.end.writes.items;
      packet = packet_after packet told.end.verdict;
    }
