-- What holds of results and options that have a value.
use Rattle.std.proofs.Common.{◌≡◌, false, Result, Ok, Err, Option, Some, None, refl, sym, subst}
use Rattle.std.specs.Prelude.{OnErr, IfSome, option_map, is_some}

-- nothing comes of it only where there is nothing
pub none_mapped : {A B : Type 0} (make : A → B) (from : Option A) (result : Option B) → result ≡ option_map make from →
    is_some result ≡ false → from ≡ None
none_mapped make None result same none = refl
none_mapped make (Some item) result same none = absurd cc

-- what holds of what comes of each item holds of what comes
pub some_mapped : {A B : Type 0} (Fact : B → Type 0) (make : A → B) (from : Option A) (result : Option B) →
    result ≡ option_map make from → ((item : A) → from ≡ Some item → Fact (make item)) → IfSome result Fact
some_mapped {B = B} Fact make None result same each = subst (λ (o : Option B). IfSome o Fact) (sym same) tt
some_mapped {B = B} Fact make (Some item) result same each =
    subst (λ (o : Option B). IfSome o Fact) (sym same) (each item refl)

pub if_some : {A : Type 0} (Fact Other : A → Type 0) (option : Option A) → ((item : A) → Fact item → Other item) →
    IfSome option Fact → IfSome option Other
if_some Fact Other None from fact = tt
if_some Fact Other (Some item) from fact = from item fact

pub on_err_both : {A E : Type 0} (result : Result A E) (One Two Other : Type 0) → (One → Two → Other) →
    OnErr result One →
    OnErr result Two → OnErr result Other
on_err_both (Ok value) One Two Other from one two = tt
on_err_both (Err fault) One Two Other from one two = from one two

-- what holds of each item that an option may be holds of it
pub each_some : {A : Type 0} (Fact : A → Type 0) (option : Option A) → ((item : A) → option ≡ Some item → Fact item) →
    IfSome option Fact
each_some Fact None each = tt
each_some Fact (Some item) each = each item refl
