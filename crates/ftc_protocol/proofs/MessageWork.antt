-- In a state of a run a message at a server has a work, or none of its jobs there is legal.
use Rattle.std.proofs.Common.{ℕ, zero, suc, ◌+◌, ◌<◌, ◌⊎◌, inl, inr, refl, sym, subst, arith}
use Rattle.std.proofs.lemmas.Bool.{cases_eq}
use Rattle.ftc_journal.specs.declared.job.Job.{Job}
use Rattle.ftc_journal.specs.declared.job.Job.TheVariants as job
use Rattle.ftc_protocol.specs.Setting.{Setting, servers, IsSetting}
use Rattle.ftc_protocol.specs.State.{ChainState}
use Rattle.ftc_protocol.specs.Measure.{most_messages}
use Rattle.ftc_protocol.specs.Jobs.{IsLegalJob, IsNoApply, IsWork, IsNoWork}
use Rattle.ftc_protocol.proofs.FewPropagates.{IsCounted}
use Rattle.ftc_protocol.proofs.BoundedSearch.{Decided, some_below}
use Rattle.ftc_protocol.proofs.DecidedJobs.{is_legal}
use Rattle.ftc_protocol.proofs.FirstJobExists.{small_legal}
use Rattle.ftc_protocol.proofs.FirstJobInTurn.{visit_works, pass_works, lose_works, carry_works}

-- the least number below a bound that has P
record IsLowest (P : ℕ → Type 0) : Type 0 where
  pub number : ℕ
  pub has : P number
  pub least : (other : ℕ) → other < number → P other → ⊥

lowest : (n : ℕ) (P : ℕ → Type 0) → ((k : ℕ) → Decided (P k)) → IsLowest P ⊎ ((k : ℕ) → k < n → P k → ⊥)
lowest zero P each = inr (λ k l p. omega arith)
lowest (suc n) P each = elim (lowest n P each) [
  | inl found ↦ inl found
  | inr none ↦ elim (each n) [
    | inl p ↦ inl (record { number = n; has = p; least = none })
    | inr isnt ↦ inr (λ k l p. elim (cases_eq k n) [ inl e ↦ isnt (subst P e p) | inr other ↦ none k (omega arith) p ])
  ]
]

module _ (c : Setting) (is : IsSetting c) (s : ChainState) (n : IsCounted c s) (k p : ℕ) where
  abbrev HasApply : ℕ → Type 0
  HasApply x = (g : ℕ) × (g < servers c + most_messages c + 1) × IsLegalJob c s (job.Apply k p g x)

  has_apply : (x : ℕ) → Decided (HasApply x)
  has_apply x = some_below (servers c + most_messages c + 1) (λ g. IsLegalJob c s (job.Apply k p g x))
      (λ g. is_legal c is s n (job.Apply k p g x))

  applies : (x g : ℕ) → IsLegalJob c s (job.Apply k p g x) → ((other : ℕ) → other < x → HasApply other → ⊥) →
      ((other : ℕ) → other < g → IsLegalJob c s (job.Apply k p other x) → ⊥)
      → IsWork c s k p (job.Apply k p g x)
  applies x g legal lower smaller = (
    refl,
    refl,
    legal,
    λ other another can before. elim before [
      | inl less ↦ let low = small_legal c is s n (job.Apply k p other another) can in
          lower another less (other, low.2, can)
      | inr same ↦ smaller other same.1 (subst (λ v. IsLegalJob c s (job.Apply k p other v)) same.0 can)
    ],
  )

  apply_or_none : ((j : Job) × IsWork c s k p j) ⊎ IsNoApply c s k p
  apply_or_none = elim (lowest (servers c + most_messages c + 1) HasApply has_apply) [
    | inr none ↦ inr (λ g x legal. let low = small_legal c is s n (job.Apply k p g x) legal in
        none x low.3 (g, low.2, legal))
    | inl found ↦
        let x = found.number in
        elim (lowest (servers c + most_messages c + 1) (λ g. IsLegalJob c s (job.Apply k p g x))
        (λ g. is_legal c is s n (job.Apply k p g x))) [
          | inl group ↦ inl (job.Apply k p group.number x, applies x group.number group.has found.least group.least)
          | inr none ↦ let has = found.has in absurd (none has.0 has.1 has.2)
        ]
  ]

  pub work_or_none : ((j : Job) × IsWork c s k p j) ⊎ IsNoWork c s k p
  work_or_none = elim apply_or_none [
    | inl work ↦ inl work
    | inr no_apply ↦ elim (is_legal c is s n (job.Visit k p)) [
      | inl can ↦ inl (job.Visit k p, visit_works c s k p can)
      | inr no_visit ↦ elim (is_legal c is s n (job.Pass k p)) [
        | inl can ↦ inl (job.Pass k p, pass_works c s k p can)
        | inr no_pass ↦ elim (is_legal c is s n (job.Lose k p)) [
          | inl can ↦ inl (job.Lose k p, lose_works c s k p can)
          | inr no_lose ↦ elim (cases_eq k 0) [
            | inr elsewhere ↦ inr (record {
              apply = no_apply;
              visit = no_visit;
              pass = no_pass;
              lose = no_lose;
              carry = λ at_0 can. elsewhere at_0;
            })
            | inl at_0 ↦ elim (is_legal c is s n (job.Carry p)) [
              | inr no_carry ↦ inr (record {
                apply = no_apply;
                visit = no_visit;
                pass = no_pass;
                lose = no_lose;
                carry = λ here can. no_carry can;
              })
              | inl can ↦ inl (
                job.Carry p,
                subst (λ v. IsWork c s v p (job.Carry p)) (sym at_0) (carry_works c s n.reached.fated p can),
              )
            ]
          ]
        ]
      ]
    ]
  ]
