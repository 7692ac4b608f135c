use Rattle.std.proofs.Common.{◌≡◌, true, ℕ, List, [], Option, Some, None, sym, subst, rules, slice_index_or}
use Rattle.std.specs.Prelude.{IfSome, option_map}
use Rattle.std.specs.List.{list_all}
use Rattle.ftc_words.specs.declared.command.Command.{Command as ReadCommand}
use Rattle.ftc_words.specs.Given.{is_name, texts_of}
use Rattle.ftc_words.specs.Command.{named_by, of_word, forms}
use Rattle.ftc_words.specs.Shown.{shown, shown_mode}
use Rattle.ftc_words.proofs.NamesGiven.{AreGiven, word_given}
use Rattle.ftc_words.proofs.forms.spelled.Goals as goal

as_shown : (command : Option ReadCommand) → AreGiven (option_map shown command) →
    IfSome command (λ c. list_all is_name (named_by (shown c)) ≡ true)
as_shown None are = tt
as_shown (Some command) are = are

pub returns-clause-named : goal.returns-clause-named
returns-clause-named c =
    let word : List ℕ = (slice_index_or c.args.words.now 0 (record { ref_ptr = (0, 0); now = [] })).now in
    let command : option_map shown c.of_word.result
    ≡ of_word forms word (shown_mode c.in_ok-mode.mode) (texts_of c.as_slice.result.now) = search rules in
    let named : list_all is_name (texts_of c.as_slice.result.now) ≡ true = search rules in
    as_shown c.of_word.result
    (subst AreGiven (sym command)
    (word_given word (shown_mode c.in_ok-mode.mode) (texts_of c.as_slice.result.now) named))
