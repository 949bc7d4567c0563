-- Words that the command line takes ask for something, within its limits.
use Rattle.std.proofs.Common.{◌≡◌, ◌∙◌, ◌<◌, ◌≤◌, ◌⊎◌, ◌&&◌, ◌||◌, ℕ, Bool, cond, codes, true, false, true≢false, not, refl}
use Rattle.std.proofs.Common.{sym, subst, arith, rules, length, List, [], ◌∷◌, Option, Some, None, inl, inr, is_some}
use Rattle.std.specs.Prelude.{IfSome, find, fold, option_map, unwrap_or}
use Rattle.std.specs.Option.{option_map_or}
use Rattle.std.specs.Str.{bytes_eq}
use Rattle.std.proofs.lemmas.Slice.Eq.{bytes_eq-Decides}
use Rattle.clap.specs.Lexer.{long_of, short_of, usize_max, without_minus}
use Rattle.clap.specs.Kinds.{or_else}
use Rattle.clap.specs.Faults.{check_fault, entered_fault, fault_of, level_fault, other_fault, step_fault, walk_fault, word_fault}
use Rattle.clap.specs.Simple.{App, Shape, built, entered, label_of, names_of, built_leaf, filled, inherited}
use Rattle.clap.specs.Simple.{marked_built, rows_at, subcommand_of, with_index, with_leaf_noted}
use Rattle.clap.specs.Takes.{is_given}
use Rattle.clap.specs.Walk.{Held, Names, Outcome, Row, Rule, Step, Text, Waiting, Walk, after_flag, after_step}
use Rattle.clap.specs.Walk.{answers_to, arg_by_index, bundle, idle, long_met, arg_by_long}
use Rattle.clap.specs.Walk.{done, first_of, long_or_other, next, nothing_held, one_of, option, plain, plain_word, positional}
use Rattle.clap.specs.Walk.{refused, rows_after, short_or_plain, stop_after, subcommand, subcommand_met}
use Rattle.clap.specs.Walk.{subcommand_or_other}
use Rattle.clap.specs.Walk.{to_positional, trailing, value, waits, walk_from, walked, walked_from, word_met}
use Rattle.clap.specs.declared.error.kind.ErrorKind.TheVariants.{DisplayHelp, InvalidSubcommand, MissingSubcommand}
use Rattle.clap.proofs.OnLiterals.{clap_on_literals}
use Rattle.rb_money.specs.declared.limits.TheConstants.{MOST_HISTORY, MOST_SITES}
use Rattle.rb_cli.specs.declared.recorded.Record.{Record}
use Rattle.rb_cli.specs.declared.words.TheConstants.{MOST_TELLERS}
use Rattle.rb_cli.specs.Words.{AreFit, Asked, FitsWithin, HasSwitchWord, IsInRange, IsNumberWithin, IsSwitchWord, TextRefs}
use Rattle.rb_cli.specs.Words.{command_line, option_rule, plain_line}
use Rattle.rb_cli.specs.Words.{choice_at, close_asked, close_line, number_at, seal, site_line, switch_at}
use Rattle.rb_cli.specs.Words.{switch_rule, values_rule, with_site_options}
use Rattle.rb_cli.specs.Words.{threads_line, within, numeral_value, words_of_matches, files_line, texts_at, threads}
use Rattle.rb_cli.specs.Words.{audit, histories, migrate, script, site}
use Rattle.rb_cli.proofs.Options.{HasText, at_option, fits, given_text, none_missing, leaf_passes, number_of_text}
use Rattle.rb_cli.proofs.Passing.{Each, HasOptions, Passes, found_in, never, none_of}

-- ---- help is no command that is run

abbrev IsOther : Text → Type 0
IsOther name = bytes_eq name (codes "help") ≡ false

abbrev StopsElsewhere : Option (Text × List Text) → Type 0
StopsElsewhere None = Unit {0}
StopsElsewhere (Some p) = IsOther p.0

abbrev StepsElsewhere : Step → Type 0
StepsElsewhere (subcommand name) = IsOther name
StepsElsewhere (next w) = Unit {0}
StepsElsewhere (trailing p) = Unit {0}
StepsElsewhere value = Unit {0}

plain_step : (c : List Rule) (waiting : Waiting) (word : Text) (h : Held) → StepsElsewhere (plain_word c waiting word h).1
plain_step c idle word h = tt
plain_step c (option id) word h = tt
plain_step c positional word h = tt

flag_step : (c : List Rule) (waiting : Waiting) (word : Text) (h : Held) (out : Outcome)
    → StepsElsewhere (after_flag c waiting word h out).1
flag_step c waiting word h done = tt
flag_step c waiting word h (waits id) = tt
flag_step c waiting word h plain = plain_step c waiting word h
flag_step c waiting word h refused = plain_step c waiting word h

short_step : (c : List Rule) (waiting : Waiting) (word : Text) (short : Option Text) (h : Held)
    → StepsElsewhere (short_or_plain c waiting word short h).1
short_step c waiting word None h = plain_step c waiting word h
short_step c waiting word (Some flags) h = flag_step c waiting word (bundle c flags h).0 (bundle c flags h).1

long_step : (c : List Rule) (waiting : Waiting) (word : Text) (long : Option (Text × Option Text)) (h : Held)
    → StepsElsewhere (long_or_other c waiting word long h).1
long_step c waiting word (Some p) h =
    flag_step c waiting word (long_met c (arg_by_long c p.0) p.1 h).0 (long_met c (arg_by_long c p.0) p.1 h).1
long_step c waiting word None h = short_step c waiting word (short_of word) h

other_step : (s : Shape) → s.disable_help_subcommand ≡ false
    → (name : Option Text) (waiting : Waiting) (position : ℕ) (word : Text) (h : Held)
    → other_fault s name word h ≡ [] → StepsElsewhere (subcommand_or_other s.rules name waiting position word h).1
other_step s has (Some name) waiting position word h none = go (bytes_eq name (codes "help")) s.disable_help_subcommand has none
  where
    go : (b disabled : Bool) → disabled ≡ false → cond (b && not disabled) (DisplayHelp ∷ InvalidSubcommand ∷ []) [] ≡ [] → b ≡ false
    go true true is e = is
    go true false is e = absurd (never DisplayHelp (InvalidSubcommand ∷ []) e)
    go false disabled is e = refl
other_step s has None waiting position word h none = go (bytes_eq word (45 ∷ 45 ∷ []))
  where
    go : (b : Bool) → StepsElsewhere (cond b (h, trailing position) (long_or_other s.rules waiting word (long_of word) h)).1
    go true = tt
    go false = long_step s.rules waiting word (long_of word) h

word_step : (s : Shape) (names : Names) → s.disable_help_subcommand ≡ false → (is_trailing : Bool) (waiting : Waiting) (position : ℕ)
    → (word : Text) (h : Held) → word_fault s names is_trailing waiting word h ≡ []
    → StepsElsewhere (word_met s.rules names is_trailing waiting position word h).1
word_step s names has true waiting position word h none = tt
word_step s names has false waiting position word h none =
    other_step s has (subcommand_met names waiting word) waiting position word h none

after_stop : (s : Shape) (word : Text) (w : Walk) (h : Held) (step : Step) → StepsElsewhere step → StopsElsewhere w.stopped
    → StopsElsewhere (after_step s.rules word w h step).stopped
after_stop s word w h (next waiting) ok was = was
after_stop s word w h (trailing position) ok was = was
after_stop s word w h (subcommand name) ok was = ok
after_stop s word w h value ok was = go (arg_by_index s.rules w.position)
  where
    go : (found : Option Rule) → StopsElsewhere (to_positional s.rules found word w h).stopped
    go None = was
    go (Some a) = tt

turn_stop : (s : Shape) (names : Names) → s.disable_help_subcommand ≡ false → (w : Walk) (word : Text) (stop : Option (Text × List Text))
    → stop ≡ w.stopped
    → cond (is_some stop) []
    (or_else (word_fault s names w.is_trailing w.waiting word w.held)
    (step_fault s w.position (word_met s.rules names w.is_trailing w.waiting w.position word w.held).0
    (word_met s.rules names w.is_trailing w.waiting w.position word w.held).1)) ≡ []
    → StopsElsewhere w.stopped → StopsElsewhere (walked_from s.rules names stop w word).stopped
turn_stop s names has w word (Some p) at none was = subst StopsElsewhere (sym at) was
turn_stop s names has w word None at none was =
    after_stop s word w _ _ (word_step s names has w.is_trailing w.waiting w.position word w.held (none_of _ _ none).0) was

walk_stop : (s : Shape) (names : Names) → s.disable_help_subcommand ≡ false → (w : Walk) (words : List Text)
    → walk_fault s names w words ≡ [] → StopsElsewhere w.stopped → StopsElsewhere (fold (walked s.rules names) w words).stopped
unfolding clap_on_literals
walk_stop s names has w [] none was = was
walk_stop s names has w (word ∷ words) none was =
    let parts = none_of _ _ none in
    walk_stop s names has (walked s.rules names w word) words parts.1 (turn_stop s names has w word w.stopped refl parts.0 was)

-- ---- what each command asks for

-- what a parse met asks for something, within its limits
pub record Asks (met : Option (Text × List Row)) : Type 0 where
  pub asked : Asked
  pub is : words_of_matches met ≡ Some asked
  pub in_range : IsInRange asked
  pub fit : IfSome met (λ m. AreFit m.0 m.1)

other_text : (a b : Text) → bytes_eq a b ≡ false → a ≡ b → ⊥
other_text a b differ same = true≢false (sym ((bytes_eq-Decides a b).1 same) ∙ differ)

-- a command has the options that are fit if it is one of the three that have some
are_fit : (name : Text) (its_rows : List Row)
    → (name ≡ codes "threads" → FitsWithin 2 MOST_SITES (codes "sites") its_rows × FitsWithin 1 MOST_TELLERS (codes "tellers") its_rows
    × FitsWithin 0 4294967295 (codes "seed") its_rows)
    → (name ≡ codes "site" → FitsWithin 0 15 (codes "me") its_rows × FitsWithin 0 MOST_HISTORY (codes "resend") its_rows
    × HasSwitchWord (codes "new") its_rows × HasSwitchWord (codes "seal") its_rows)
    → (name ≡ codes "close" → FitsWithin 2 MOST_SITES (codes "sites") its_rows) → AreFit name its_rows
are_fit name its_rows in_threads in_site in_close = record {
  sites = λ is. (in_threads is).0;
  tellers = λ is. (in_threads is).1;
  seed = λ is. (in_threads is).2;
  me = λ is. (in_site is).0;
  resend = λ is. (in_site is).1;
  new = λ is. (in_site is).2;
  seal = λ is. (in_site is).3;
  next_sites = in_close;
}

nothing_missing : (a b d : Bool) → (not a || (not b || (not d || false))) ≡ false → (a ≡ true) × (b ≡ true) × (d ≡ true)
nothing_missing true true true e = (refl, refl, refl)
nothing_missing true true false e = absurd (true≢false e)
nothing_missing true false d e = absurd (true≢false e)
nothing_missing false b d e = absurd (true≢false e)

-- a command as it is built, below the command line
abbrev pub leaf : App → Shape
leaf a = built_leaf (inherited (with_leaf_noted (marked_built plain_line.top)) a.top)

-- the rule of an option whose value is a number in a range
abbrev pub numbers : Text → ℕ → ℕ → Bool → Rule
numbers name least most required = filled (option_rule name (within least most) required)

-- the rules of `threads` are options
pub threads_options : HasOptions (leaf threads_line)
threads_options = search rules

-- and so are those of `site`
pub site_options : (names : TextRefs) → HasOptions (leaf (site_line names))
site_options names = search rules

-- and those of `close`
pub close_options : HasOptions (leaf close_line)
close_options = search rules

-- the rule of the files after them
abbrev pub journals_rule : Rule
journals_rule = with_index 1 (filled (values_rule (codes "journals")))

threads_asks : (its_rows : List Row) → Each (Passes (leaf threads_line).rules) its_rows
    → check_fault (leaf threads_line) its_rows false ≡ []
    → Asks (Some (codes "threads", its_rows))
threads_asks its_rows all none =
    let rules = (leaf threads_line).rules in
    let given = nothing_missing (is_given (codes "sites") its_rows) (is_given (codes "tellers") its_rows) (is_given (codes "seed") its_rows)
    (none_missing (leaf threads_line) its_rows none) in
    let of_sites = given_text rules (numbers (codes "sites") 2 MOST_SITES true) (codes "sites") its_rows all refl given.0 in
    let of_tellers = given_text rules (numbers (codes "tellers") 1 MOST_TELLERS true) (codes "tellers") its_rows all refl given.1 in
    let of_seed = given_text rules (numbers (codes "seed") 0 4294967295 true) (codes "seed") its_rows all refl given.2 in
    let sites = number_of_text _ _ its_rows 2 MOST_SITES of_sites refl in
    let tellers = number_of_text _ _ its_rows 1 MOST_TELLERS of_tellers refl in
    let seed = number_of_text _ _ its_rows 0 4294967295 of_seed refl in
    record {
      asked = threads (numeral_value (without_minus of_sites.text)) (numeral_value (without_minus of_tellers.text))
          (numeral_value (without_minus of_seed.text));
      is = rw (sites.0, tellers.0, seed.0) refl;
      in_range = (sites.1.1, sites.1.2, tellers.1.1, tellers.1.2, omega (arith, seed.1.2));
      fit = are_fit _ its_rows (λ _. (
        fits _ _ its_rows 2 MOST_SITES (inr of_sites) refl,
        fits _ _ its_rows 1 MOST_TELLERS (inr of_tellers) refl,
        fits _ _ its_rows 0 4294967295 (inr of_seed) refl,
      )) (λ is. cc is) (λ is. cc is);
    }

-- the number of entries that are sent again, if it is given
resent : (o : Option Text) → IfSome o (IsNumberWithin 0 MOST_HISTORY) → IfSome (option_map numeral_value o) (λ n. n ≤ MOST_HISTORY)
resent None h = tt
resent (Some t) h = h.2

-- the word of a switch
switch_word : (t : Text) → (bytes_eq t (codes "true") || bytes_eq t (codes "false")) ≡ true → IsSwitchWord t
switch_word t passes = go (bytes_eq t (codes "true")) refl passes
  where
    go : (b : Bool) → bytes_eq t (codes "true") ≡ b → (b || bytes_eq t (codes "false")) ≡ true → IsSwitchWord t
    go true is passes = inl ((bytes_eq-Decides t (codes "true")).0 is)
    go false is passes = inr ((bytes_eq-Decides t (codes "false")).0 passes)

-- a switch has one of its two words, if any
switched : (id : Text) (its_rows : List Row)
    → ((one_of id its_rows ≡ None) × (is_given id its_rows ≡ false)) ⊎ HasText (filled (switch_rule id)) id its_rows
    → IfSome (one_of id its_rows) IsSwitchWord
switched id its_rows (inl none) = subst (λ o. IfSome o IsSwitchWord) (sym none.0) tt
switched id its_rows (inr has) = subst (λ o. IfSome o IsSwitchWord) (sym has.one) (switch_word has.text has.passes)

-- a history to seal is asked for, or a site to run
sealed_or_run : (sealed new : Bool) (me : ℕ) (journal : Text) (again : Option ℕ) (choice : Record) (bank : Option Text) → me < MOST_SITES
    → IfSome again (λ n. n ≤ MOST_HISTORY)
    → (asked : Asked) × (with_site_options (Some me) (Some journal) sealed new again choice bank ≡ Some asked) × IsInRange asked
sealed_or_run true new me journal again choice bank is_site few = (seal me journal, refl, is_site)
sealed_or_run false new me journal again choice bank is_site few = (site me journal new again choice bank, refl, (is_site, few))

site_asks : (names : TextRefs) (its_rows : List Row) → Each (Passes (leaf (site_line names)).rules) its_rows
    → check_fault (leaf (site_line names)) its_rows false ≡ []
    → Asks (Some (codes "site", its_rows))
site_asks names its_rows all none =
    let rules = (leaf (site_line names)).rules in
    let given = nothing_missing (is_given (codes "me") its_rows) (is_given (codes "journal") its_rows) true
    (none_missing (leaf (site_line names)) its_rows none) in
    let of_me = given_text rules (numbers (codes "me") 0 15 true) (codes "me") its_rows all refl given.0 in
    let of_journal = given_text rules (filled (option_rule (codes "journal") None true)) (codes "journal") its_rows all refl given.1 in
    let me = number_of_text _ _ its_rows 0 15 of_me refl in
    let again = fits _ _ its_rows 0 MOST_HISTORY
    (at_option rules (numbers (codes "resend") 0 MOST_HISTORY false) (codes "resend") its_rows all refl) refl in
    let sealed = switch_at (codes "seal") its_rows in
    let new = switch_at (codes "new") its_rows in
    let resend = number_at (codes "resend") its_rows in
    let bank = first_of (codes "bank") its_rows in
    let what = sealed_or_run sealed new (numeral_value (without_minus of_me.text)) of_journal.text resend (choice_at its_rows) bank
    (omega (arith, me.1.2)) (resent (one_of (codes "resend") its_rows) again) in
    record {
      asked = what.0;
      is = (λ i. with_site_options (option_map numeral_value (me.0 i)) (of_journal.first i) sealed new resend (choice_at its_rows) bank)
          ∙ what.1;
      in_range = what.2;
      fit = are_fit _ its_rows (λ is. cc is) (λ _. (
        fits _ _ its_rows 0 15 (inr of_me) refl,
        again,
        switched (codes "new") its_rows (at_option rules (filled (switch_rule (codes "new"))) (codes "new") its_rows all refl),
        switched (codes "seal") its_rows (at_option rules (filled (switch_rule (codes "seal"))) (codes "seal") its_rows all refl),
      )) (λ is. cc is);
    }

-- the number of the next bank's sites, if it is given
next_fits : (o : Option Text) → IfSome o (IsNumberWithin 2 MOST_SITES)
    → IfSome (option_map numeral_value o) (λ n. (2 ≤ n) × (n ≤ MOST_SITES))
next_fits None h = tt
next_fits (Some t) h = (h.1, h.2)

close_asks : (its_rows : List Row) → Each (Passes (leaf close_line).rules) its_rows → check_fault (leaf close_line) its_rows false ≡ []
    → Asks (Some (codes "close", its_rows))
close_asks its_rows all none =
    let given = nothing_missing (is_given (codes "journals") its_rows) true true (none_missing (leaf close_line) its_rows none) in
    let rules = (leaf close_line).rules in
    let journals : HasText journals_rule (codes "journals") its_rows = given_text rules _ _ its_rows all refl given.0 in
    let next = fits _ _ its_rows 2 MOST_SITES
    (at_option rules (numbers (codes "sites") 2 MOST_SITES false) (codes "sites") its_rows all refl) refl in
    record {
      asked = close_asked its_rows;
      is = refl;
      in_range = (
        next_fits (one_of (codes "sites") its_rows) next,
        subst (λ o. 1 ≤ length (unwrap_or o [])) (sym journals.every) (omega arith),
      );
      fit = are_fit _ its_rows (λ is. cc is) (λ is. cc is) (λ _. next);
    }

-- ---- the command line

-- what a command asks for if words lead to it by this name
abbrev AsksBy : Text → Shape → Type 0
AsksBy name s = (words : List Text) → level_fault s [] nothing_held words false [] ≡ [] → answers_to name (label_of s) ≡ true
    → Asks (Some (rows_at s words))

lines_ask : (name its_name : Text) (most : ℕ) (task : List Text → Asked)
    → ((its_rows : List Row) → (words_of_matches (Some ((leaf (files_line its_name most)).name, its_rows))
    ≡ Some (task (texts_at (codes "files") its_rows)))
    × IsInRange (task (texts_at (codes "files") its_rows)))
    → bytes_eq (leaf (files_line its_name most)).name (codes "threads") ≡ false
    → bytes_eq (leaf (files_line its_name most)).name (codes "site") ≡ false
    → bytes_eq (leaf (files_line its_name most)).name (codes "close") ≡ false → AsksBy name (leaf (files_line its_name most))
lines_ask name its_name most task is no_threads no_site no_close words none named =
    let its_rows = (rows_at (leaf (files_line its_name most)) words).1 in record {
      asked = task (texts_at (codes "files") its_rows);
      is = (is its_rows).0;
      in_range = (is its_rows).1;
      fit = are_fit _ its_rows (λ is. absurd (other_text _ _ no_threads is)) (λ is. absurd (other_text _ _ no_site is))
          (λ is. absurd (other_text _ _ no_close is));
    }

each_asks : (names : TextRefs) (name : Text) → IsOther name → Each (AsksBy name) (built (command_line names)).subs
each_asks names name other = (
  lines_ask name (codes "script") 1 script (λ its_rows. (refl, tt)) refl refl refl,
  (
    lines_ask name (codes "histories") 1 histories (λ its_rows. (refl, tt)) refl refl refl,
    (
      lines_ask name (codes "audit") usize_max audit (λ its_rows. (refl, tt)) refl refl refl,
      (
        lines_ask name (codes "migrate") 1 migrate (λ its_rows. (refl, tt)) refl refl refl,
        (
          (λ words none named.
              let done = leaf_passes (leaf threads_line) threads_options words none in threads_asks _ done.0 done.1),
          (
            (λ words none named.
                let done = leaf_passes (leaf (site_line names)) (site_options names) words none in site_asks names _ done.0 done.1),
            (
              (λ words none named.
                  let done = leaf_passes (leaf close_line) close_options words none in close_asks _ done.0 done.1),
              ((λ words none named. absurd (no_help name other (or_false _ named))), tt),
            ),
          ),
        ),
      ),
    ),
  ),
)
  where
    or_false : (b : Bool) → (b || false) ≡ true → b ≡ true
    or_false true e = refl
    or_false false e = e

    no_help : (name : Text) → IsOther name → bytes_eq (codes "help") name ≡ true → ⊥
    no_help name other is = other_text name (codes "help") other (sym ((bytes_eq-Decides (codes "help") name).0 is))

entered_asks : (names : TextRefs) (stop : Option (Text × List Text)) → StopsElsewhere stop
    → entered_fault (built (command_line names)) stop ≡ [] → is_some (entered (built (command_line names)) stop) ≡ true
    → Asks (entered (built (command_line names)) stop)
entered_asks names None ok none some = absurd (true≢false (sym some))
entered_asks names (Some p) ok none some =
    go (find (λ s. answers_to p.0 (label_of s)) (built (command_line names)).subs)
    (found_in (AsksBy p.0) (λ s. answers_to p.0 (label_of s)) (built (command_line names)).subs
    (each_asks names p.0 ok)) none some
  where
    go : (o : Option Shape) → IfSome o (λ s. AsksBy p.0 s × (answers_to p.0 (label_of s) ≡ true))
        → option_map_or (λ s. level_fault s [] nothing_held p.1 false []) o [] ≡ []
        → is_some (option_map (λ s. rows_at s p.1) o) ≡ true
        → Asks (option_map (λ s. rows_at s p.1) o)
    go None h fault some = absurd (true≢false (sym some))
    go (Some s) h fault some = h.0 p.1 fault h.1

entered_one : (names : TextRefs) (its_rows : List Row) (has : Bool)
    → check_fault (built (command_line names)).top its_rows has ≡ [] → has ≡ true
entered_one names its_rows true e = refl
entered_one names its_rows false e = absurd (never MissingSubcommand [] e)

-- words that the command line takes ask for something
pub taken_asks : (names : TextRefs) (words : List Text) → fault_of (command_line names) words ≡ []
    → Asks (subcommand_of (command_line names) words)
taken_asks names words none =
    let app = built (command_line names) in
    let stop = stop_after app.top.rules (names_of app) words in
    let one = none_of _ _ none in
    let two = none_of _ _ one.1 in
    let three = none_of _ _ two.1 in
    let four = none_of _ _ three.1 in
    entered_asks names stop (walk_stop app.top (names_of app) refl (walk_from nothing_held) words one.0 tt) two.0
    (entered_one names (rows_after app.top.rules (names_of app) words) (is_some (entered app stop)) four.1)
