-- The words that ask for each thing, the command line that takes them, and what it reads them as.
use Rattle.std.specs.Prelude.{◌≡◌, ◌<◌, ◌≤◌, ◌^◌, ◌⊎◌, ℕ, pos, List, [], ◌∷◌, ◌++◌, length, map, codes, decimal, flat_map}
use Rattle.std.specs.Prelude.{◌&&◌, Bool, true, false, is_some, IsPermutation}
use Rattle.std.specs.Option.{option_map_or}
use Rattle.std.specs.Prelude.{Option, None, Some, IfOk, IfSome, Result, if◌then◌else◌, option_map, slice_get, unwrap_or}
use Rattle.std.specs.Borrow.{Bor}
use Rattle.std.specs.Str.{bytes_eq}
use Rattle.std.specs.Str.Parse.{IsNumeral, digits_value, without_leading_plus}
use Rattle.clap.specs.Lexer.{usize_max}
use Rattle.clap.specs.Kinds.{or_else}
use Rattle.clap.specs.Words.{App, FailsBy, Kinds, Row, Rule, Shape, Text, all_of, fault_of, first_of, new_app, new_rule, one_of}
use Rattle.clap.specs.Words.{subcommand_of, subcommand_rows_of, with_rule, with_subcommand}
use Rattle.clap.specs.declared.builder.action.ArgAction.TheVariants.{Append, SetTrue}
use Rattle.clap.specs.declared.builder.value_parser.ValueParser.{ValueParser}
use Rattle.clap.specs.declared.error.Error.{Error}
use Rattle.clap.specs.declared.error.kind.ErrorKind.TheVariants.{ArgumentConflict}
use Rattle.clap.specs.declared.parser.matches.ArgMatches.{ArgMatches}
use Rattle.clap.specs.declared.builder.value_parser.ValueParser.TheVariants.{Names, Signed}
use Rattle.rb_money.specs.declared.limits.TheConstants.{MOST_HISTORY, MOST_SITES}
use Rattle.rb_cli.specs.declared.recorded.Record.{Record}
use Rattle.rb_cli.specs.declared.recorded.Record.TheVariants.{Changes, All}
use Rattle.rb_cli.specs.declared.words.TheConstants.{MOST_TELLERS}
use Rattle.rb_cli.specs.declared.words.Words.{Words}
use Rattle.rb_cli.specs.declared.words.Words.TheVariants.{Script, Histories, Audit, Migrate, Threads, Site, Seal, Close}

-- ---- words in their usual spelling: each option's name, and its value after it, in a word of its own

-- a text can be a value in a word of its own: it doesn't begin with a dash (45), as the name of an option does
abbrev pub IsValue : List ℕ → Type 0
IsValue text = ¬ (slice_get text 0 ≡ Some 45)

-- each of the texts can be one
abbrev pub AreValues : List (List ℕ) → Type 0
AreValues [] = Unit {0}
AreValues (text ∷ texts) = IsValue text × AreValues texts

-- the words ask for a task with lines: they are its command and its files, of which there may be none, and this many
pub record AskForLines (words : List (List ℕ)) (name : List ℕ) (most : ℕ) (files : List (List ℕ)) : Type 0 where
  pub words_are : words ≡ name ∷ files
  pub few_files : length files ≤ most
  pub are_files : AreValues files

-- the words of an option with a value, if it is given: its name and the value, each in a word of its own
abbrev pub value_words : List ℕ → Option (List ℕ) → List (List ℕ)
value_words name None = []
value_words name (Some value) = name ∷ value ∷ []

-- the word of an option without a value, its name, if it is given
abbrev pub switch_words : List ℕ → Bool → List (List ℕ)
switch_words name given = if given then name ∷ [] else []

-- the words are a command's name and, after it, those of each of these options, in any order. An option that isn't
-- given has none
abbrev pub AreCommand : List (List ℕ) → List ℕ → List (List (List ℕ)) → Type 0
AreCommand words name options =
    (ordered : List (List (List ℕ))) × IsPermutation options ordered × (words ≡ name ∷ flat_map (λ option. option) ordered)

-- the words ask for a run of threads: they are its name and three options, with numbers in their ranges
pub record AskForThreads (words : List (List ℕ)) (sites tellers seed : ℕ) : Type 0 where
  pub words_are : AreCommand words (codes "threads") (value_words (codes "--sites") (Some (decimal sites))
      ∷ value_words (codes "--tellers") (Some (decimal tellers)) ∷ value_words (codes "--seed") (Some (decimal seed)) ∷ [])
  pub some_sites : 2 ≤ sites
  pub few_sites : sites ≤ MOST_SITES
  pub some_tellers : 1 ≤ tellers
  pub few_tellers : tellers ≤ MOST_TELLERS
  pub seed_fits : seed < 2 ^ 32

-- the word for which events are recorded
abbrev pub record_word : Record → List ℕ
record_word Changes = codes "changes"
record_word All = codes "all"

-- the options of a site: its number, its journal, and five others that may be given
abbrev pub site_options : ℕ → List ℕ → Bool → Option ℕ → Option Record → Option (List ℕ) → Bool → List (List (List ℕ))
site_options me journal is_new resend recorded bank is_sealed =
    value_words (codes "--me") (Some (decimal me))
    ∷ value_words (codes "--journal") (Some journal)
    ∷ switch_words (codes "--new") is_new
    ∷ value_words (codes "--resend") (option_map decimal resend)
    ∷ value_words (codes "--record") (option_map record_word recorded)
    ∷ value_words (codes "--bank") bank
    ∷ switch_words (codes "--seal") is_sealed ∷ []

-- the words ask for a site: they are its name and its options, of which the seal isn't given. Without `--record`
-- changes are recorded, and without `--resend` the messages of all entries are written again
pub record AskForSite (words : List (List ℕ)) (me : ℕ) (journal : List ℕ) (is_new : Bool) (resend : Option ℕ)
    (recorded : Record) (bank : Option (List ℕ)) : Type 0 where
  pub given : Option Record
  pub recorded_is : recorded ≡ unwrap_or given Changes
  pub words_are : AreCommand words (codes "site") (site_options me journal is_new resend given bank false)
  pub is_site : me < MOST_SITES
  pub is_file : IsValue journal
  pub few_entries : IfSome resend (λ n. n ≤ MOST_HISTORY)
  pub is_name : IfSome bank IsValue

-- the words ask to seal a site's journal: they are its name and the options for its number, its journal and the seal
pub record AskForSeal (words : List (List ℕ)) (me : ℕ) (journal : List ℕ) : Type 0 where
  pub words_are : AreCommand words (codes "site") (site_options me journal false None None None true)
  pub is_site : me < MOST_SITES
  pub is_file : IsValue journal

-- the words for accounts to add: the option for each, with its name
abbrev pub account_words : List (List ℕ) → List (List ℕ)
account_words [] = []
account_words (name ∷ names) = codes "--account" ∷ name ∷ account_words names

-- the words ask to close the books: after the command's name the number of sites, if it is asked for, the accounts to
-- add, and one journal or more
pub record AskForClosing (words : List (List ℕ)) (sites : Option ℕ) (accounts journals : List (List ℕ)) : Type 0 where
  pub words_are : words
      ≡ codes "close" ∷ (value_words (codes "--sites") (option_map decimal sites) ++ (account_words accounts ++ journals))
  pub sites_fit : IfSome sites (λ n. (2 ≤ n) × (n ≤ MOST_SITES))
  pub are_names : AreValues accounts
  pub some_journals : 1 ≤ length journals
  pub are_files : AreValues journals

-- the text after a reference, if there is one
abbrev pub text_if_any : Option (Bor (List ℕ)) → Option (List ℕ)
text_if_any = option_map (λ text. text.now)

-- the texts after references
abbrev pub texts_of : List (Bor (List ℕ)) → List (List ℕ)
texts_of = map (λ text. text.now)

-- what the words after the program's name ask for
abbrev pub Ask : List (List ℕ) → Words → Type 0
Ask words (Script files) = AskForLines words (codes "script") 1 (texts_of files.items)
Ask words (Histories files) = AskForLines words (codes "histories") 1 (texts_of files.items)
Ask words (Audit files) = AskForLines words (codes "audit") usize_max (texts_of files.items)
Ask words (Migrate files) = AskForLines words (codes "migrate") 1 (texts_of files.items)
Ask words (Threads sites tellers seed) = AskForThreads words sites tellers seed
Ask words (Site me journal is_new resend recorded bank) =
    AskForSite words me journal.now is_new resend recorded (text_if_any bank)
Ask words (Seal me journal) = AskForSeal words me journal.now
Ask words (Close sites accounts journals) = AskForClosing words sites (texts_of accounts.items) (texts_of journals.items)

-- ---- the command line

-- the command line before its subcommand: the words don't begin with the program's name, and it says its version
abbrev pub top_line : Shape
top_line = record (new_app (codes "rbbank")).top { no_binary_name = true; subcommand_required = true; has_version = true }

-- an option with one value, of this kind if any is named, that must be given or needn't
abbrev pub option_rule : List ℕ → Option ValueParser → Bool → Rule
option_rule name kind required = record (new_rule name) { long = Some name; value_names = 1; parser = kind; required = required }

-- an option without a value, that needn't be given
abbrev pub switch_rule : List ℕ → Rule
switch_rule name = record (new_rule name) { long = Some name; action = Some SetTrue }

-- an option with one value, that may be given any number of times
abbrev pub repeated_rule : List ℕ → Rule
repeated_rule name = record (option_rule name None false) { action = Some Append }

-- one value or more, after the options
abbrev pub values_rule : List ℕ → Rule
values_rule name = record (new_rule name) {
  value_names = 1;
  range = Some (record { start_inclusive = 1; end_inclusive = usize_max });
  required = true;
}

-- from one value up to this many after a command, that needn't be given
abbrev pub files_rule : ℕ → Rule
files_rule most = record (new_rule (codes "files")) {
  value_names = 1;
  range = Some (record { start_inclusive = 1; end_inclusive = most });
}

-- a number from the first to the second
abbrev pub within : ℕ → ℕ → Option ValueParser
within least most = Some (Signed (pos least) (pos most))

-- a task with lines, which may be given up to this many files
abbrev pub files_line : List ℕ → ℕ → App
files_line name most = with_rule (new_app name) (files_rule most)

-- a run of threads, with its options
abbrev pub threads_line : App
threads_line =
    with_rule
    (with_rule (with_rule (new_app (codes "threads")) (option_rule (codes "sites") (within 2 MOST_SITES) true))
    (option_rule (codes "tellers") (within 1 MOST_TELLERS) true)) (option_rule (codes "seed") (within 0 4294967295) true)

-- texts after references, as the rule of an option holds those that it takes
abbrev pub TextRefs : Type 0
TextRefs = Bor (List (Bor Text))

-- the two words for which events are recorded. An option's rule holds its words by reference, so each rule and command
-- line with them takes the place where they lie in memory; nothing that is read or refused depends on it
abbrev pub AreRecordWords : TextRefs → Type 0
AreRecordWords names = map (λ name. name.now) names.now ≡ record_word Changes ∷ record_word All ∷ []

-- the option for which events are recorded, with its words in this place
abbrev pub record_rule : TextRefs → Rule
record_rule names = option_rule (codes "record") (Some (Names names)) false

-- a site, with its options
abbrev pub site_line : TextRefs → App
site_line names =
    with_rule
    (with_rule
    (with_rule
    (with_rule
    (with_rule
    (with_rule (with_rule (new_app (codes "site")) (option_rule (codes "me") (within 0 15) true)) (option_rule (codes "journal") None true))
    (switch_rule (codes "new"))) (option_rule (codes "resend") (within 0 MOST_HISTORY) false)) (record_rule names))
    (option_rule (codes "bank") None false)) (switch_rule (codes "seal"))

-- closing the books, with its options
abbrev pub close_line : App
close_line =
    with_rule
    (with_rule (with_rule (new_app (codes "close")) (option_rule (codes "sites") (within 2 MOST_SITES) false))
    (repeated_rule (codes "account")))
    (values_rule (codes "journals"))

-- the command line with the tasks, which have no options
abbrev pub plain_line : App
plain_line =
    with_subcommand
    (with_subcommand
    (with_subcommand (with_subcommand (record { top = top_line; subs = [] }) (files_line (codes "script") 1).top)
    (files_line (codes "histories") 1).top)
    (files_line (codes "audit") usize_max).top) (files_line (codes "migrate") 1).top

-- the command line: a subcommand for each thing
abbrev pub command_line : TextRefs → App
command_line names =
    with_subcommand (with_subcommand (with_subcommand plain_line threads_line.top) (site_line names).top) close_line.top

-- the rule is that of the option for which events are recorded; the command is that of a site; and this is the command
-- line. Each has the option's two words, wherever they lie
abbrev pub IsRecordRule : Rule → Type 0
IsRecordRule rule = (names : TextRefs) × AreRecordWords names × (rule ≡ record_rule names)

abbrev pub IsSiteLine : App → Type 0
IsSiteLine app = (names : TextRefs) × AreRecordWords names × (app ≡ site_line names)

abbrev pub IsCommandLine : App → Type 0
IsCommandLine app = (names : TextRefs) × AreRecordWords names × (app ≡ command_line names)

-- ---- what the command line reads words as

-- what is asked for, with the names as texts
pub data Asked : Type 0 where
  script : List Text → Asked
  histories : List Text → Asked
  audit : List Text → Asked
  migrate : List Text → Asked
  threads : ℕ → ℕ → ℕ → Asked
  site : ℕ → Text → Bool → Option ℕ → Record → Option Text → Asked
  seal : ℕ → Text → Asked
  close : Option ℕ → List Text → List Text → Asked

abbrev pub as_asked : Words → Asked
as_asked (Script files) = script (texts_of files.items)
as_asked (Histories files) = histories (texts_of files.items)
as_asked (Audit files) = audit (texts_of files.items)
as_asked (Migrate files) = migrate (texts_of files.items)
as_asked (Threads sites tellers seed) = threads sites tellers seed
as_asked (Site me journal is_new resend recorded bank) = site me journal.now is_new resend recorded (text_if_any bank)
as_asked (Seal me journal) = seal me journal.now
as_asked (Close sites accounts journals) = close sites (texts_of accounts.items) (texts_of journals.items)

-- the number that a text is, which may have a plus sign and zeros in front
abbrev pub numeral_value : Text → ℕ
numeral_value text = digits_value 10 (without_leading_plus text)

-- the number of the option with this name, if it is given
abbrev pub number_at : Text → List Row → Option ℕ
number_at name rows = option_map numeral_value (one_of name rows)

-- the switch with this name is given
abbrev pub switch_at : Text → List Row → Bool
switch_at name rows = option_map_or (λ text. bytes_eq text (codes "true")) (one_of name rows) false

-- what a word says is recorded
abbrev pub record_of : Text → Record
record_of text = if bytes_eq text (record_word All) then All else Changes

-- what is recorded by the word of the option, if it is given; else changes are
abbrev pub choice_at : List Row → Record
choice_at rows = option_map_or record_of (first_of (codes "record") rows) Changes

-- all values of an option that may be given again, or of those after the options
abbrev pub texts_at : Text → List Row → List Text
texts_at name rows = unwrap_or (all_of name rows) []

-- a run of threads has all three of its options
abbrev pub with_run : Option ℕ → Option ℕ → Option ℕ → Option Asked
with_run (Some sites) (Some tellers) (Some seed) = Some (threads sites tellers seed)
with_run _ _ _ = None

abbrev pub threads_asked : List Row → Option Asked
threads_asked rows = with_run (number_at (codes "sites") rows) (number_at (codes "tellers") rows) (number_at (codes "seed") rows)

-- a site has its number and its file. With the switch for it the history is sealed, and nothing else counts; else the
-- file may be a new one, the site may have how many last entries' messages are written again, it records these events,
-- and its bank may be named
abbrev pub with_site_options : Option ℕ → Option Text → Bool → Bool → Option ℕ → Record → Option Text → Option Asked
with_site_options (Some me) (Some journal) true is_new resend recorded bank = Some (seal me journal)
with_site_options (Some me) (Some journal) false is_new resend recorded bank =
    Some (site me journal is_new resend recorded bank)
with_site_options _ _ _ _ _ _ _ = None

abbrev pub site_asked : List Row → Option Asked
site_asked rows = with_site_options (number_at (codes "me") rows) (first_of (codes "journal") rows) (switch_at (codes "seal") rows)
    (switch_at (codes "new") rows) (number_at (codes "resend") rows) (choice_at rows) (first_of (codes "bank") rows)

-- closing the books has all accounts and all journals that are given
abbrev pub close_asked : List Row → Asked
close_asked rows = close (number_at (codes "sites") rows) (texts_at (codes "account") rows) (texts_at (codes "journals") rows)

-- what a command with its options asks for
abbrev pub words_of_command : Text → List Row → Option Asked
words_of_command name rows =
    let files = texts_at (codes "files") rows in
    if bytes_eq name (codes "script") then Some (script files)
    else if bytes_eq name (codes "histories") then Some (histories files)
    else if bytes_eq name (codes "audit") then Some (audit files)
    else if bytes_eq name (codes "migrate") then Some (migrate files)
    else if bytes_eq name (codes "threads") then threads_asked rows else if bytes_eq name (codes "site") then site_asked rows
    else if bytes_eq name (codes "close") then Some (close_asked rows) else None

-- what the command that a parse met asks for, with what it found of its options
abbrev pub words_of_matches : Option (Text × List Row) → Option Asked
words_of_matches None = None
words_of_matches (Some met) = words_of_command met.0 met.1

-- what the command line found in the words, or refused them by: the command that they lead to, with its options
abbrev pub IsMatch : List Text → Result ArgMatches Error → Type 0
IsMatch words result = (names : TextRefs) × AreRecordWords names
    × IfOk result (λ m. subcommand_rows_of m ≡ subcommand_of (command_line names) words)
    × FailsBy (fault_of (command_line names) words) result

-- the words are read as this
abbrev pub AreReadAs : List Text → Words → Type 0
AreReadAs words asked = (line : App) × IsCommandLine line
    × (words_of_matches (subcommand_of line words) ≡ Some (as_asked asked))

-- the options of a site name a bank, and ask for a seal, which has none
abbrev pub names_bank_to_seal : List Row → Bool
names_bank_to_seal rows = is_some (first_of (codes "bank") rows) && switch_at (codes "seal") rows

-- and so it is with the command that a parse met: it is that of a site
abbrev pub seals_bank : Option (Text × List Row) → Bool
seals_bank None = false
seals_bank (Some met) = bytes_eq met.0 (codes "site") && names_bank_to_seal met.1

-- these options don't go together
abbrev pub conflict_of : Option (Text × List Row) → Kinds
conflict_of met = if seals_bank met then ArgumentConflict ∷ [] else []

-- what is wrong with words: what the command line refuses them by, or else that they name a bank to a seal
abbrev pub kinds_of : App → List Text → Kinds
kinds_of line words = or_else (fault_of line words) (conflict_of (subcommand_of line words))

-- a result is Ok only if nothing is wrong with the words, and its error's kind is what is wrong with them, or out of
-- memory
abbrev pub FailsByWords : {T : Type 0} → List Text → Result T Error → Type 0
FailsByWords words result = (line : App) × IsCommandLine line × FailsBy (kinds_of line words) result

-- if words in their usual spelling ask for something, it is this
abbrev pub IsAsUsual : List Text → Words → Type 0
IsAsUsual words asked = (usual : Words) → Ask words usual → as_asked asked ≡ as_asked usual

-- what is asked for is within its limits
abbrev pub IsInRange : Asked → Type 0
IsInRange (threads sites tellers seed) =
    (2 ≤ sites) × (sites ≤ MOST_SITES) × (1 ≤ tellers) × (tellers ≤ MOST_TELLERS) × (seed < 2 ^ 32)
IsInRange (site me journal is_new resend recorded bank) = (me < MOST_SITES) × IfSome resend (λ n. n ≤ MOST_HISTORY)
IsInRange (seal me journal) = me < MOST_SITES
IsInRange (close sites accounts journals) = IfSome sites (λ n. (2 ≤ n) × (n ≤ MOST_SITES)) × (1 ≤ length journals)
IsInRange _ = Unit {0}

-- ---- what is known of the options of a command that was met

-- the text is a number from the first to the second
abbrev pub IsNumberWithin : ℕ → ℕ → Text → Type 0
IsNumberWithin least most text = IsNumeral 10 (without_leading_plus text) × (least ≤ numeral_value text) × (numeral_value text ≤ most)

-- the option, if it is given, is such a number
abbrev pub FitsWithin : ℕ → ℕ → Text → List Row → Type 0
FitsWithin least most name rows = IfSome (one_of name rows) (IsNumberWithin least most)

-- the word of a switch
abbrev pub IsSwitchWord : Text → Type 0
IsSwitchWord text = (text ≡ codes "true") ⊎ (text ≡ codes "false")

-- the switch has such a word, if it has any
abbrev pub HasSwitchWord : Text → List Row → Type 0
HasSwitchWord name rows = IfSome (one_of name rows) IsSwitchWord

-- the options of a command with this name have numbers within their limits, and its switch has its word
pub record AreFit (name : Text) (rows : List Row) : Type 0 where
  pub sites : name ≡ codes "threads" → FitsWithin 2 MOST_SITES (codes "sites") rows
  pub tellers : name ≡ codes "threads" → FitsWithin 1 MOST_TELLERS (codes "tellers") rows
  pub seed : name ≡ codes "threads" → FitsWithin 0 4294967295 (codes "seed") rows
  pub me : name ≡ codes "site" → FitsWithin 0 15 (codes "me") rows
  pub resend : name ≡ codes "site" → FitsWithin 0 MOST_HISTORY (codes "resend") rows
  pub new : name ≡ codes "site" → HasSwitchWord (codes "new") rows
  pub seal : name ≡ codes "site" → HasSwitchWord (codes "seal") rows
  pub next_sites : name ≡ codes "close" → FitsWithin 2 MOST_SITES (codes "sites") rows
