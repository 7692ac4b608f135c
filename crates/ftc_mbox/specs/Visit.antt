-- What a rule reads and writes in one visit, whatever the store has at its keys.
use Rattle.std.specs.Prelude.{ℕ, zero, suc, ◌≢◌, List, [], ◌∷◌, Option, if◌then◌else◌}
use Rattle.std.specs.List.{AllByRecursion, Contains}
use Rattle.ftc_base.specs.declared.limits.TheConstants.{MOST_READS}
use Rattle.ftc_base.specs.declared.ask.Answer.{Answer}
use Rattle.ftc_base.specs.declared.ask.Write.{Write}
use Rattle.ftc_base.specs.declared.ask.Ask.{Ask}
use Rattle.ftc_base.specs.declared.ask.Ask.TheVariants.{Read, Finish}
use Rattle.ftc_mbox.specs.declared.rule.Rule.{Rule}
use Rattle.ftc_mbox.specs.Ask.{ask}

-- each write is at one of these keys
abbrev pub WritesAt : List (List ℕ) → List Write → Type 0
WritesAt keys writes = AllByRecursion (λ write. Contains keys write.key) writes

-- Asked in turn, it reads at most so many keys more, none twice and none of those that it has read, and then writes
-- only at keys that it read with leave to write there.
abbrev pub ReadsAndWrites : ℕ → List (List ℕ) → List (List ℕ) → (List Answer → Ask) → Type 0
ReadsAndWrites zero read leave asks =
    elim (asks []) as (λ asked. Type 0) [
      | Read key change ↦ ⊥
      | Finish end ↦ WritesAt leave end.writes.items
    ]
ReadsAndWrites (suc left) read leave asks =
    elim (asks []) as (λ asked. Type 0) [
      | Read key change ↦
          AllByRecursion (λ earlier. key ≢ earlier) read
          × ((value : Option (List ℕ)) →
          ReadsAndWrites left (key ∷ read) (if change then key ∷ leave else leave)
          (λ answers. asks (record { key = key; value = value } ∷ answers)))
      | Finish end ↦ WritesAt leave end.writes.items
    ]

-- so does every rule, at every packet
abbrev pub RulesAreBounded : Type 0
RulesAreBounded = (rule : Rule) (packet : List ℕ) → ReadsAndWrites MOST_READS [] [] (ask rule packet)
