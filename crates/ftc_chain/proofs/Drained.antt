-- What is taken out of a chain.
use Rattle.std.proofs.Common.{◌≡◌, ◌++◌, ◌+◌, ◌≤◌, [], ◌∷◌, List, Option, Some, None, take, length, refl, ap, arith}
use Rattle.std.proofs.Common.{eq-eqb, eqb-true}
use Rattle.std.specs.Prelude.{IfSome, IsNone}
use Rattle.std.specs.Coded.{Coded-set}
use Rattle.std.proofs.Math.Bool.{Bool-set}
use Rattle.std.proofs.Math.Bridge.{le_prop}
use Rattle.std.proofs.Math.Logic.{∥∥₁_elim, ∥∥₁_map}
use Rattle.ftc_base.specs.declared.released.Released.{Released}
use Rattle.ftc_protocol.specs.Moment.{released_in}
use Rattle.ftc_protocol.specs.Setting.{count}
use Rattle.ftc_chain.specs.declared.chain.Chain.{the_code}
use Rattle.ftc_chain.specs.declared.course.Course.{Course}
use Rattle.ftc_chain.specs.declared.given.Given.{Given}
use Rattle.ftc_chain.specs.ChainRun.{ChainRun, released_by}
use Rattle.ftc_chain.specs.Course.{IsCourseResting, state_by}
use Rattle.ftc_chain.specs.Doing.{setting_by}
use Rattle.ftc_chain.specs.Outlet.{Outgoing, IsOutlet}
use Rattle.ftc_chain.proofs.Made.{run_of}
use Rattle.ftc_chain.proofs.Outlets.{few_released, few_drained, as_many, still_out, one_out, drained_one, all_out}

-- what was taken, and how the outlet counts it
pub taken_out : (released : List Released) (old new : Outgoing) (result : Option Released) →
    IfSome result (λ one. old.waiting ≡ one ∷ new.waiting) → IfSome result (λ one. new.drained ≡ old.drained + 1) →
    (IsNone result → new.waiting ≡ old.waiting) → (IsNone result → new.drained ≡ old.drained) →
    IsOutlet released old → IsOutlet released new
taken_out released old new None waiting drained same uncounted is =
    still_out released old new (same refl) (uncounted refl) is
taken_out released old new (Some one) waiting drained same uncounted is =
    one_out released old new one waiting drained is

-- what follows of two facts of an item, where there is one
pub both_some : {A : Type 0} (One Two Fact : A → Type 0) (option : Option A) →
    ((item : A) → One item → Two item → Fact item) → IfSome option One → IfSome option Two → IfSome option Fact
both_some One Two Fact None from one two = tt
both_some One Two Fact (Some item) from one two = from item one two

module _ (given : Given) (course : Course) (is : ∥ IsCourseResting (setting_by given) course ∥₁) where
  abbrev released : List Released
  released = released_in (state_by (setting_by given) course.journal.items).trace

  abbrev with_outlet : Outgoing → Course
  with_outlet outlet = record { journal = course.journal; network = course.network; outlet = outlet }

  -- no more was taken out and waits than there are events
  pub room_out : course.outlet.drained + length course.outlet.waiting ≤ length course.journal.items
  room_out = ∥∥₁_elim is le_prop (λ rest.
      let few = few_drained released course.outlet rest.course_is.outlet in
      let all = few_released (setting_by given) course.journal.items in
      omega (arith, few, all))

  pub drained_count : length (take course.outlet.drained released) ≡ course.outlet.drained
  drained_count = eqb-true _ _ (∥∥₁_elim is (Bool-set _ _)
      (λ rest. eq-eqb _ _ (as_many released course.outlet rest.course_is.outlet)))

  pub rests_out : (outlet : Outgoing) → (IsOutlet released course.outlet → IsOutlet released outlet) →
      ∥ IsCourseResting (setting_by given) (with_outlet outlet) ∥₁
  rests_out outlet out = ∥∥₁_map is (λ rest. record {
    course_is = record {
      right = rest.course_is.right;
      run = rest.course_is.run;
      stands = rest.course_is.stands;
      outlet = out rest.course_is.outlet;
    };
    none_due = rest.none_due;
  })

  same_runs : (one other : ChainRun) → (IsCourseResting (setting_by given) course → one ≡ other) → one ≡ other
  same_runs one other from = ∥∥₁_elim is (Coded-set the_code one other) from

  -- the one that is taken out is the next of the records
  pub drained_more : (outlet : Outgoing) (one : Released) → course.outlet.waiting ≡ one ∷ outlet.waiting →
      outlet.drained ≡ course.outlet.drained + 1 →
      run_of given (with_outlet outlet)
      ≡ record (run_of given course) { drained = take course.outlet.drained released ++ one ∷ [] }
  drained_more outlet one waiting drained = same_runs _ _
      (λ rest. ap (λ (list : List Released). record (run_of given course) { drained = list })
      (drained_one released course.outlet outlet one waiting drained rest.course_is.outlet))

  -- where none waits, all were taken out
  pub drained_all : course.outlet.waiting ≡ [] → (run_of given course).drained ≡ released_by (run_of given course)
  drained_all none =
      let same : run_of given course ≡ record (run_of given course) { drained = released } =
      same_runs _ _ (λ rest. ap (λ (list : List Released). record (run_of given course) { drained = list })
      (all_out released course.outlet none rest.course_is.outlet)) in
      ap (λ (run : ChainRun). run.drained) same

  -- no more was taken out than there are packets
  pub few_taken : ((rest : IsCourseResting (setting_by given) course) → length released ≤ count (setting_by given)) →
      length (run_of given course).drained ≤ length (run_of given course).packets
  few_taken fewer = ∥∥₁_elim is le_prop (λ rest.
      let few = few_drained released course.outlet rest.course_is.outlet in
      let size = as_many released course.outlet rest.course_is.outlet in
      let all = fewer rest in
      omega (arith, few, size, all))

  -- and with one more that is taken out there are still no more
  pub few_with : (outlet : Outgoing) →
      ((rest : IsCourseResting (setting_by given) course) → length released ≤ count (setting_by given)) →
      (IsOutlet released course.outlet → IsOutlet released outlet) →
      length (run_of given (with_outlet outlet)).drained ≤ length (run_of given course).packets
  few_with outlet fewer out = ∥∥₁_elim is le_prop (λ rest.
      let few = few_drained released outlet (out rest.course_is.outlet) in
      let size = as_many released outlet (out rest.course_is.outlet) in
      let all = fewer rest in
      omega (arith, few, size, all))
