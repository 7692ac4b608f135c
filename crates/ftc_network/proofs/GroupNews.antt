-- The replicas that the receiver of a link gets: one of each group that both ends share.
use Rattle.std.proofs.Common.{◌≡◌, ◌≢◌, ◌<◌, ◌++◌, ◌∷◌, ◌∙◌, ℕ, zero, suc, Bool, true, false, List, [], Option, Some}
use Rattle.std.proofs.Common.{None, inl, inr, refl, sym, ap, subst, arith, if◌then◌else◌}
use Rattle.std.proofs.lemmas.Bool.{eq-eqb, ne_eqb, cases_eq}
use Rattle.std.proofs.lemmas.List.Folds.{find-append}
use Rattle.std.specs.List.{AllByRecursion, find, list_all}
use Rattle.std.specs.Option.{option_or}
use Rattle.std.specs.Prelude.{is_some}
use Rattle.ftc_base.proofs.EachOf.{all-weaker, all-append}
use Rattle.ftc_journal.specs.declared.event.Event.TheVariants.{Pull}
use Rattle.ftc_replica.specs.Held.{Held}
use Rattle.ftc_ring.specs.Ring.{RingShape, next_of}
use Rattle.ftc_serial.specs.Words.{EachLater, each_below}
use Rattle.ftc_protocol.specs.Setting.{Setting, servers, shape}
use Rattle.ftc_protocol.specs.State.{ChainState}
use Rattle.ftc_protocol.specs.Legal.{IsLegal}
use Rattle.ftc_ties.specs.Servers.{is_shared}
use Rattle.ftc_ties.proofs.Serving.{IsSteadyState}
use Rattle.ftc_server.specs.declared.recovering.GroupReplica.{GroupReplica}
use Rattle.ftc_server.specs.declared.server.Server.{Server}
use Rattle.ftc_server.specs.Looks.{replica_in, is_later_of}
use Rattle.ftc_refinement.specs.Contents.{IsServerAt}
use Rattle.ftc_refinement.specs.Pulled.{IsPulledOf, ArePulled, is_of_group}
use Rattle.ftc_network.specs.Pulling.{new_of, news}
use Rattle.ftc_network.proofs.MessageForms.{all_pass}
use Rattle.ftc_network.proofs.SharedGroups.{mine_is, theirs_is}

-- ---- lists one behind another

later_both : {A : Type 0} (R : A → A → Type 0) (before after : List A) → EachLater R before → EachLater R after →
    AllByRecursion (λ x. AllByRecursion (R x) after) before → EachLater R (before ++ after)
later_both R [] after first second across = second
later_both R (x ∷ before) after first second across =
    (all-append (R x) before after first.0 across.0, later_both R before after first.1 second across.1)

none_of : (group : ℕ) (items : List GroupReplica) → AllByRecursion (λ (new : GroupReplica). new.group < group) items →
    find (is_of_group group) items ≡ None
none_of group [] below = refl
none_of group (new ∷ items) below =
    ap (λ b. if b then Some new else find (is_of_group group) items)
    (ne_eqb new.group group (λ same. let less = below.0 in absurd (omega arith)))
    ∙ none_of group items below.1

module _ (is_in : ℕ → Bool) (make : ℕ → GroupReplica) where
  abbrev one_at : ℕ → List GroupReplica
  one_at group = if is_in group then make group ∷ [] else []

  all_one : (P : GroupReplica → Type 0) (group : ℕ) → (is_in group ≡ true → P (make group)) →
      AllByRecursion P (one_at group)
  all_one P group holds = elim (is_in group) as (λ b. is_in group ≡ b →
      AllByRecursion P (if b then make group ∷ [] else [])) [ true ↦ λ is. (holds is, tt) | false ↦ λ isnt. tt ] refl

  pub all_made : (P : GroupReplica → Type 0) (count : ℕ) →
      ((group : ℕ) → group < count → is_in group ≡ true → P (make group)) → AllByRecursion P (each_below one_at count)
  all_made P zero holds = tt
  all_made P (suc count) holds =
      all-append P (each_below one_at count) (one_at count)
      (all_made P count (λ group less is. holds group (omega (arith, less)) is))
      (all_one P count (λ is. holds count (omega arith) is))

  pub none_made : (count : ℕ) → ((group : ℕ) → group < count → is_in group ≡ false) → each_below one_at count ≡ []
  none_made zero none = refl
  none_made (suc count) none =
      ap (λ b. each_below one_at count ++ (if b then make count ∷ [] else [])) (none count (omega arith))
      ∙ ap (λ (items : List GroupReplica). items
      ++ []) (none_made count (λ group less. none group (omega (arith, less))))

  module _ (named : (group : ℕ) → (make group).group ≡ group) where
    below_made : (count : ℕ) → AllByRecursion (λ (new : GroupReplica). new.group < count) (each_below one_at count)
    below_made count = all_made (λ (new : GroupReplica). new.group < count) count
        (λ group less is. subst (λ n. n < count) (sym (named group)) less)

    pub once_made : (count : ℕ) →
        EachLater (λ (one other : GroupReplica). one.group ≢ other.group) (each_below one_at count)
    once_made zero = tt
    once_made (suc count) =
        later_both (λ (one other : GroupReplica). one.group ≢ other.group) (each_below one_at count) (one_at count)
        (once_made count)
        (elim (is_in count) as (λ b. EachLater (λ (one other : GroupReplica). one.group ≢ other.group)
        (if b then make count ∷ [] else [])) [ true ↦ (tt, tt) | false ↦ tt ])
        (all-weaker (λ (new : GroupReplica). new.group < count)
        (λ (new : GroupReplica). AllByRecursion (λ (other : GroupReplica). new.group ≢ other.group) (one_at count))
        (λ new less. all_one (λ (other : GroupReplica). new.group ≢ other.group) count
        (λ is same. absurd (omega (arith, less, same, named count)))) (each_below one_at count) (below_made count))

    pub found_made : (count group : ℕ) → group < count → is_in group ≡ true →
        find (is_of_group group) (each_below one_at count) ≡ Some (make group)
    found_made zero group less is = absurd (omega arith)
    found_made (suc count) group less is =
        find-append (is_of_group group) (each_below one_at count) (one_at count)
        ∙ elim (cases_eq group count) [
          | inl same ↦
              subst (λ g. option_or (find (is_of_group g) (each_below one_at count))
              (find (is_of_group g) (one_at count))
              ≡ Some (make g)) (sym same)
              (ap (λ o. option_or o (find (is_of_group count) (one_at count)))
              (none_of count (each_below one_at count) (below_made count))
              ∙ (ap (λ b. find (is_of_group count) (if b then make count ∷ [] else [])) (ap is_in (sym same) ∙ is)
              ∙ ap (λ b. if b then Some (make count) else None) (eq-eqb (make count).group count (named count))))
          | inr differs ↦ ap (λ o. option_or o (find (is_of_group group) (one_at count)))
              (found_made count group (omega (arith, less, differs)) is)
        ]

module _ (c : Setting) (s : ChainState) (h : IsSteadyState c s) (link : ℕ) (legal : IsLegal c s (Pull link))
    (sender old : Server) (sends : IsServerAt c s link sender)
    (is : IsServerAt c s (next_of (servers c) link) old) where
  abbrev receiver : ℕ
  receiver = next_of (servers c) link

  abbrev shared_at : ℕ → Bool
  shared_at group = is_shared c group link receiver

  abbrev pub made : List GroupReplica
  made = each_below (one_at shared_at (new_of sender old)) (servers c)

  pub news_same : (ring : RingShape) → ring ≡ shape c → news ring sender old ≡ made
  news_same ring same = ap (λ r. news r sender old) same
      ∙ (ap (λ n. each_below (λ g. if is_shared c g n old.id then new_of sender old g ∷ []
      else []) (servers c)) sends.number_is
      ∙ ap (λ n. each_below (λ g. if is_shared c g link n then new_of sender old g ∷ []
      else []) (servers c)) is.number_is)

  pub are_pulled : ArePulled c link old sender made
  are_pulled = record {
    each = all_made shared_at (new_of sender old) (IsPulledOf c link old sender) (servers c)
        (λ group inside shared. record {
          inside = inside;
          shared = shared;
          mine = replica_in old group;
          theirs = replica_in sender group;
          mine_is = mine_is c s h link legal sender old sends is group inside shared;
          theirs_is = theirs_is c s h link legal sender old sends is group inside shared;
          replica = refl;
        });
    once = once_made shared_at (new_of sender old) (λ group. refl) (servers c);
    all = λ group inside shared. (
      new_of sender old group,
      found_made shared_at (new_of sender old) (λ g. refl) (servers c) group inside shared,
    );
  }

  -- it is a later member of each
  pub are_later : list_all (is_later_of old.others.items) made ≡ true
  are_later = all_pass (λ (new : GroupReplica). is_later_of old.others.items new ≡ true) (is_later_of old.others.items)
      (λ new is. is) made
      (all_made shared_at (new_of sender old) (λ (new : GroupReplica). is_later_of old.others.items new
      ≡ true) (servers c)
      (λ group inside shared. ap (λ (o : Option Held). is_some o)
      (mine_is c s h link legal sender old sends is group inside shared)))
