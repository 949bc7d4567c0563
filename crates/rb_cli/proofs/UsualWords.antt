-- Words in their usual spelling are taken, and read as what they ask for.
use Rattle.std.proofs.Common.{◌≡◌, ◌∙◌, ◌<◌, ◌≤◌, ◌^◌, ℕ, Bool, cond, codes, decimal}
use Rattle.std.proofs.Common.{refl, sym, ap, subst, arith, List, [], ◌∷◌, length, Option}
use Rattle.std.proofs.Common.{Some, None, inl, ◌&&◌, ◌||◌, is_some, not, true, false}
use Rattle.std.specs.Prelude.{IfSome, fold, if◌then◌else◌, option_and_then, option_map, slice_get, unwrap_or}
use Rattle.std.specs.List.{list_any}
use Rattle.std.specs.Option.{option_map_or}
use Rattle.std.specs.Str.{bytes_eq}
use Rattle.std.proofs.lemmas.Bool.{and_right}
use Rattle.std.proofs.lemmas.List.{length-append}
use Rattle.clap.specs.Facts.{explicit_source}
use Rattle.clap.specs.Lexer.{usize_max}
use Rattle.clap.specs.Kinds.{Kinds, check_kinds, or_else}
use Rattle.clap.specs.Faults.{check_fault, defaults_fault, entered_fault, settle_fault, turn_fault, walk_fault}
use Rattle.clap.specs.Simple.{App, Shape, built, entered, filled, names_of}
use Rattle.clap.specs.Takes.{value_passes}
use Rattle.clap.specs.Walk.{Row, Rule, Walk, finished, nothing_held, row_text, rows_after, settled, walk_from, walked}
use Rattle.clap.specs.Words.{Text, subcommand_of}
use Rattle.clap.proofs.OnLiterals.{clap_on_literals}
use Rattle.clap.proofs.FaultLemmas.{stopped_fault}
use Rattle.clap.proofs.WalkLemmas.{list_any-map, walk_stopped}
use Rattle.clap.specs.declared.error.kind.ErrorKind.TheVariants.{ArgumentConflict}
use Rattle.rb_money.specs.declared.limits.TheConstants.{MOST_HISTORY, MOST_SITES}
use Rattle.rb_cli.specs.declared.words.TheConstants.{MOST_TELLERS}
use Rattle.rb_cli.specs.Words.{AreRecordWords, Ask, Asked, AskForThreads}
use Rattle.rb_cli.specs.Words.{AreCommand, IsValue, TextRefs, as_asked, site_options, switch_words, value_words}
use Rattle.rb_cli.specs.Words.{close_line, command_line, numeral_value, with_run, with_site_options}
use Rattle.rb_cli.specs.Words.{conflict_of, kinds_of, option_rule, record_of, record_rule, record_word}
use Rattle.rb_cli.specs.Words.{files_line, seals_bank, text_if_any, texts_of}
use Rattle.rb_cli.specs.Words.{script, audit, histories, migrate, site, site_line, switch_rule, threads, threads_line, words_of_matches}
use Rattle.rb_cli.specs.declared.recorded.Record.{Record}
use Rattle.rb_cli.specs.declared.recorded.Record.TheVariants.{Changes, All}
use Rattle.rb_cli.specs.declared.words.Words.{Words}
use Rattle.rb_cli.specs.declared.words.Words.TheVariants.{Script, Histories, Audit, Migrate, Threads, Site, Seal, Close}
use Rattle.rb_cli.proofs.GivenOptions.{FitsSwitch, FitsValued, IsNamed, IsSwitch, both_none}
use Rattle.rb_cli.proofs.Closing.{closing_taken}
use Rattle.rb_cli.proofs.Files.{file_taken, files_taken}
use Rattle.rb_cli.proofs.InAnyOrder.{IsSlot, Slot, in_any_order, read_after, slot_row}
use Rattle.rb_cli.proofs.Reading.{leaf, numbers}
use Rattle.rb_cli.proofs.Spelled.{decimal_digits, is_plain, named, number_passes, reads}

-- a switch that isn't given before is refused by nothing but what is pending
switched : (settle : Kinds) (again has : Bool) → settle ≡ [] → has ≡ false
    → or_else (or_else settle (or_else (cond (has && not again) (ArgumentConflict ∷ []) []) [])) [] ≡ []
switched settle again has none new = rw (none, new) refl

-- what a command line fails by once its walk is at its end
abbrev end_fault : App → Walk → Kinds
end_fault app end = or_else (entered_fault app end.stopped)
    (or_else (settle_fault app.top.rules app.top.args_override_self end.held)
    (or_else (defaults_fault (settled app.top.rules end.held).rows app.top.rules)
    (check_fault app.top (finished app.top.rules end.held) (is_some (entered app end.stopped)))))

-- a walk that stopped at this command, with these words after it
abbrev stopped_at : Text → List Text → Walk
stopped_at name words = record (walk_from nothing_held) { stopped = Some (name, words) }

-- ---- options

-- an option for what is written so, one for a number, one for a text, and a switch, as they are given if they are
abbrev value_slot : {X : Type 0} → Text → Rule → (X → Text) → Option X → Slot
value_slot name a text o = (value_words (45 ∷ 45 ∷ name) (option_map text o), 45 ∷ 45 ∷ name, a, option_map (λ x. text x ∷ []) o)

abbrev number_slot : Text → ℕ → ℕ → Bool → Option ℕ → Slot
number_slot name least most required = value_slot name (numbers name least most required) decimal

abbrev text_slot : Text → Bool → Option Text → Slot
text_slot name required o =
    (value_words (45 ∷ 45 ∷ name) o, 45 ∷ 45 ∷ name, filled (option_rule name None required), option_map (λ text. text ∷ []) o)

abbrev switch_slot : Text → Bool → Slot
switch_slot name b = (switch_words (45 ∷ 45 ∷ name) b, 45 ∷ 45 ∷ name, filled (switch_rule name), if b then Some [] else None)

-- what is found of an option, as a number, as a switch, as a text, as what is recorded, and as whether it is given
abbrev number_in : Option Row → Option ℕ
number_in o = option_map numeral_value (option_and_then row_text o)

abbrev switch_in : Option Row → Bool
switch_in o = option_map_or (λ text. bytes_eq text (codes "true")) (option_and_then row_text o) false

abbrev text_in : Option Row → Option Text
text_in o = option_and_then (λ r. slice_get r.values 0) o

abbrev choice_in : Option Row → Record
choice_in o = option_map_or record_of (text_in o) Changes

abbrev there : Option Row → Bool
there o = option_map_or (λ r. explicit_source r.source) o false

-- an option for a number is one of the command's, and its row is read as what is given
numbered : (s : Shape) (name : Text) (least most : ℕ) (required : Bool) (o : Option ℕ)
    → IsNamed s (45 ∷ 45 ∷ name) (numbers name least most required) → most < 2 ^ 63
    → least ≤ unwrap_or o least → IfSome o (λ n. n ≤ most)
    → IsSlot s (number_slot name least most required o) × (number_in (slot_row (number_slot name least most required o)) ≡ o)
numbered s name least most required None named below low high = (refl, refl)
numbered s name least most required (Some n) named below low high =
    let small : n < 2 ^ 63 = omega (arith, high) in
    let its = decimal_digits n small in
    ((FitsValued named its.plain (number_passes name required n least most small low high), refl), ap Some (reads n _ its))

-- so it is with an option for a text
worded : (s : Shape) (name : Text) (required : Bool) (o : Option Text)
    → IsNamed s (45 ∷ 45 ∷ name) (filled (option_rule name None required)) → IfSome o IsValue
    → IsSlot s (text_slot name required o) × (text_in (slot_row (text_slot name required o)) ≡ o)
worded s name required None named is = (refl, refl)
worded s name required (Some text) named is = ((FitsValued named (is_plain text is) refl, refl), refl)

-- and with a switch
switching : (s : Shape) (name : Text) (b : Bool) → IsSwitch s (45 ∷ 45 ∷ name) (filled (switch_rule name))
    → IsSlot s (switch_slot name b) × (switch_in (slot_row (switch_slot name b)) ≡ b)
switching s name false is = (refl, refl)
switching s name true is = ((FitsSwitch is, refl), refl)

module _ (names : TextRefs) (are_words : AreRecordWords names) where
  -- the commands with options as they are built
  abbrev run_shape : Shape
  run_shape = leaf threads_line

  abbrev site_shape : Shape
  site_shape = leaf (site_line names)

  -- the option for what is recorded, as it is given if it is
  abbrev record_slot : Option Record → Slot
  record_slot = value_slot (codes "record") (filled (record_rule names)) record_word

  -- its words pass as they are read, wherever they lie
  record_passes : (r : Record) → value_passes (filled (record_rule names)) (record_word r)
      ≡ list_any (λ word. bytes_eq word (record_word r)) (record_word Changes ∷ record_word All ∷ [])
  record_passes r = list_any-map (λ word. bytes_eq word (record_word r)) (λ name. name.now) names.now
      ∙ ap (list_any (λ word. bytes_eq word (record_word r))) are_words

  -- it is one of the command's, and its row is read as what is recorded
  recorded : (o : Option Record) → IsNamed site_shape (codes "--record") (filled (record_rule names))
      → IsSlot site_shape (record_slot o) × (choice_in (slot_row (record_slot o)) ≡ unwrap_or o Changes)
  recorded None named = (refl, refl)
  recorded (Some Changes) named = ((FitsValued named refl (record_passes Changes), refl), refl)
  recorded (Some All) named = ((FitsValued named refl (record_passes All), refl), refl)

  -- the words are taken, name no bank to a seal, and are read as this
  abbrev TakesAs : List Text → Asked → Type 0
  TakesAs words asked =
      (kinds_of (command_line names) words ≡ [])
      × (words_of_matches (subcommand_of (command_line names) words) ≡ Some asked)

  -- the command line as it is built
  abbrev line : App
  line = built (command_line names)

  -- so it is with words after a command's name if the walk stops there, the command takes them, no bank is named to a
  -- seal, and they are read as this
  taken : (words options : List Text) (name : Text) (s : Shape) (rows : List Row) (asked : Asked) → words ≡ name ∷ options
      → walked line.top.rules (names_of line) (walk_from nothing_held) name ≡ stopped_at name []
      → entered line (Some (name, options)) ≡ Some (name, rows_after s.rules [] options) → rows_after s.rules [] options ≡ rows
      → turn_fault line.top (names_of line) (walk_from nothing_held) name ≡ [] → end_fault line (stopped_at name options) ≡ []
      → seals_bank (Some (name, rows)) ≡ false → words_of_matches (Some (name, rows)) ≡ Some asked → TakesAs words asked
  unfolding clap_on_literals
  taken words options name s rows asked are stops met rows_are starts ends unsealed is =
      let walk = fold (walked line.top.rules (names_of line)) in
      let end = walk_stopped line.top.rules (names_of line) (walk_from nothing_held) name [] options
      ∙ ap (λ (w : Walk). walk w options) (sym stops) in
      let none = subst (λ (w : Walk). walk_fault line.top (names_of line) w options ≡ []) (sym stops)
      (stopped_fault line.top (names_of line) (walk_from nothing_held) (name, []) options) in
      let its = ap (λ (w : Walk). entered line w.stopped) (sym end) ∙ met ∙ ap (λ (r : List Row). Some (name, r)) rows_are in
      subst (λ ws. TakesAs ws asked) (sym are) (
        both_none _ _ (both_none _ _ (both_none _ _ starts none) (subst (λ (w : Walk). end_fault line w ≡ []) end ends))
            (ap conflict_of its ∙ ap (λ b. cond b (ArgumentConflict ∷ []) []) unsealed),
        ap words_of_matches its ∙ is,
      )

  -- ---- the commands

  -- words that ask for a run of threads are taken as that
  usual_threads : (words : List Text) (k m n : ℕ) → AskForThreads words k m n → TakesAs words (threads k m n)
  unfolding clap_on_literals
  usual_threads words k m n ask =
      let its_sites = numbered run_shape (codes "sites") 2 MOST_SITES true (Some k)
      (named run_shape _ _ (λ rows pending. refl) (λ rows pending. refl) refl refl refl (inl refl))
      (omega arith) ask.some_sites ask.few_sites in
      let its_tellers = numbered run_shape (codes "tellers") 1 MOST_TELLERS true (Some m)
      (named run_shape _ _ (λ rows pending. refl) (λ rows pending. refl) refl refl refl (inl refl))
      (omega arith) ask.some_tellers ask.few_tellers in
      let its_seed = numbered run_shape (codes "seed") 0 4294967295 true (Some n)
      (named run_shape _ _ (λ rows pending. refl) (λ rows pending. refl) refl refl refl (inl refl))
      (omega arith) (omega arith) (omega (arith, ask.seed_fits)) in
      let takes = in_any_order run_shape (number_slot (codes "sites") 2 MOST_SITES true (Some k)
      ∷ number_slot (codes "tellers") 1 MOST_TELLERS true (Some m) ∷ number_slot (codes "seed") 0 4294967295 true (Some n) ∷ [])
      ask.words_are.0 (its_sites.0, (its_tellers.0, (its_seed.0, tt))) refl refl ask.words_are.1 in
      let finds = takes.finds in
      let rules = run_shape.rules in
      let has_sites = read_after there (codes "sites") rules takes.rows _ refl (ap there finds.0) in
      let has_tellers = read_after there (codes "tellers") rules takes.rows _ refl (ap there finds.1.0) in
      let has_seed = read_after there (codes "seed") rules takes.rows _ refl (ap there finds.1.1.0) in
      let fault = takes.fault (λ i. check_kinds false false (not (has_sites i) || (not (has_tellers i) || (not (has_seed i) || false)))) in
      let sites_are = read_after number_in (codes "sites") rules takes.rows _ refl (ap number_in finds.0 ∙ its_sites.1) in
      let tellers_are = read_after number_in (codes "tellers") rules takes.rows _ refl (ap number_in finds.1.0 ∙ its_tellers.1) in
      let seed_is = read_after number_in (codes "seed") rules takes.rows _ refl (ap number_in finds.1.1.0 ∙ its_seed.1) in
      taken words _ (codes "threads") run_shape _ _ ask.words_are.2 refl refl takes.ends refl (ap (λ k. or_else k []) fault) refl
      (λ i. with_run (sites_are i) (tellers_are i) (seed_is i))

  -- options of a site, with the seal or without, where no bank's name goes with it
  usual_options : (words : List Text) (k : ℕ) (file : Text) (new : Bool) (resend : Option ℕ) (given : Option Record) (bank : Option Text)
      (sealed : Bool) (asked : Asked) → AreCommand words (codes "site") (site_options k file new resend given bank sealed)
      → k < MOST_SITES → IsValue file → IfSome resend (λ n. n ≤ MOST_HISTORY) → IfSome bank IsValue → (is_some bank && sealed) ≡ false
      → with_site_options (Some k) (Some file) sealed new resend (unwrap_or given Changes) bank ≡ Some asked → TakesAs words asked
  unfolding clap_on_literals
  usual_options words k file new resend given bank sealed asked are low is_file few is_name unsealed reads_as =
      let its_me = numbered site_shape (codes "me") 0 15 true (Some k)
      (named site_shape _ _ (λ rows pending. refl) (λ rows pending. refl) refl refl refl (inl refl))
      (omega arith) (omega arith) (omega (arith, low)) in
      let its_journal = worded site_shape (codes "journal") true (Some file)
      (named site_shape _ _ (λ rows pending. refl) (λ rows pending. refl) refl refl refl (inl refl)) is_file in
      let its_new = switching site_shape (codes "new") new
      (record { sets = refl; met = λ rows pending. refl; fault = λ rows pending settled new. switched _ false _ settled new }) in
      let its_resend = numbered site_shape (codes "resend") 0 MOST_HISTORY false resend
      (named site_shape _ _ (λ rows pending. refl) (λ rows pending. refl) refl refl refl (inl refl))
      (omega arith) (omega arith) few in
      let its_record = recorded given (named site_shape _ _ (λ rows pending. refl) (λ rows pending. refl) refl refl refl (inl refl)) in
      let its_bank = worded site_shape (codes "bank") false bank
      (named site_shape _ _ (λ rows pending. refl) (λ rows pending. refl) refl refl refl (inl refl)) is_name in
      let its_seal = switching site_shape (codes "seal") sealed
      (record { sets = refl; met = λ rows pending. refl; fault = λ rows pending settled new. switched _ false _ settled new }) in
      let takes = in_any_order site_shape (number_slot (codes "me") 0 15 true (Some k) ∷ text_slot (codes "journal") true (Some file)
      ∷ switch_slot (codes "new") new ∷ number_slot (codes "resend") 0 MOST_HISTORY false resend ∷ record_slot given
      ∷ text_slot (codes "bank") false bank ∷ switch_slot (codes "seal") sealed ∷ []) are.0
      (its_me.0, (its_journal.0, (its_new.0, (its_resend.0, (its_record.0, (its_bank.0, (its_seal.0, tt))))))) refl refl are.1 in
      let finds = takes.finds in
      let rules = site_shape.rules in
      let me_is = read_after number_in (codes "me") rules takes.rows _ refl (ap number_in finds.0 ∙ its_me.1) in
      let journal_is = read_after text_in (codes "journal") rules takes.rows _ refl (ap text_in finds.1.0) in
      let new_is = read_after switch_in (codes "new") rules takes.rows _ refl (ap switch_in finds.1.1.0 ∙ its_new.1) in
      let resend_is = read_after number_in (codes "resend") rules takes.rows _ refl (ap number_in finds.1.1.1.0 ∙ its_resend.1) in
      let record_is = read_after choice_in (codes "record") rules takes.rows _ refl (ap choice_in finds.1.1.1.1.0 ∙ its_record.1) in
      let bank_is = read_after text_in (codes "bank") rules takes.rows _ refl (ap text_in finds.1.1.1.1.1.0 ∙ its_bank.1) in
      let seal_is = read_after switch_in (codes "seal") rules takes.rows _ refl (ap switch_in finds.1.1.1.1.1.1.0 ∙ its_seal.1) in
      let has_me = read_after there (codes "me") rules takes.rows _ refl (ap there finds.0) in
      let has_journal = read_after there (codes "journal") rules takes.rows _ refl (ap there finds.1.0) in
      let fault = takes.fault (λ i. check_kinds false false (not (has_me i) || (not (has_journal i) || false))) in
      taken words _ (codes "site") site_shape _ asked are.2 refl refl takes.ends refl (ap (λ k. or_else k []) fault)
      ((λ i. is_some (bank_is i) && seal_is i) ∙ unsealed)
      ((λ i. with_site_options (me_is i) (journal_is i) (seal_is i) (new_is i) (resend_is i) (record_is i) (bank_is i)) ∙ reads_as)

  -- words that ask for something are taken, and read as that
  pub usual_words : (words : List Text) (asked : Words) → length words ≤ usize_max → Ask words asked → TakesAs words (as_asked asked)
  unfolding clap_on_literals
  usual_words words (Script files) few ask =
      let its = file_taken (codes "script") (texts_of files.items) ask.are_files ask.few_files in
      taken words _ (codes "script") (leaf (files_line (codes "script") 1)) _ _ ask.words_are refl refl refl refl
      (ap (λ k. or_else k []) its.fault) refl (ap (λ fs. Some (script fs)) its.are)
  usual_words words (Histories files) few ask =
      let its = file_taken (codes "histories") (texts_of files.items) ask.are_files ask.few_files in
      taken words _ (codes "histories") (leaf (files_line (codes "histories") 1)) _ _ ask.words_are refl refl refl refl
      (ap (λ k. or_else k []) its.fault) refl (ap (λ fs. Some (histories fs)) its.are)
  usual_words words (Audit files) few ask =
      let its = files_taken (codes "audit") (texts_of files.items) ask.are_files ask.few_files in
      taken words _ (codes "audit") (leaf (files_line (codes "audit") usize_max)) _ _ ask.words_are refl refl refl refl
      (ap (λ k. or_else k []) its.fault) refl (ap (λ fs. Some (audit fs)) its.are)
  usual_words words (Migrate files) few ask =
      let its = file_taken (codes "migrate") (texts_of files.items) ask.are_files ask.few_files in
      taken words _ (codes "migrate") (leaf (files_line (codes "migrate") 1)) _ _ ask.words_are refl refl refl refl
      (ap (λ k. or_else k []) its.fault) refl (ap (λ fs. Some (migrate fs)) its.are)
  usual_words words (Threads k m n) few ask = usual_threads words k m n ask
  usual_words words (Site me journal is_new resend recorded bank) few ask =
      usual_options words me journal.now is_new resend ask.given (text_if_any bank) false _ ask.words_are ask.is_site ask.is_file
      ask.few_entries ask.is_name (and_right _ false refl)
      (ap (λ r. Some (site me journal.now is_new resend r (text_if_any bank))) (sym ask.recorded_is))
  usual_words words (Seal me journal) few ask =
      usual_options words me journal.now false None None None true _ ask.words_are ask.is_site ask.is_file tt tt refl refl
  usual_words words (Close sites accounts journals) few ask =
      let files = texts_of journals.items in
      let names = texts_of accounts.items in
      let no_more : length files ≤ usize_max = omega (arith, simp length-append at (ap length ask.words_are), few) in
      let takes = closing_taken sites names files ask.sites_fit ask.are_names ask.are_files ask.some_journals no_more in
      taken words _ (codes "close") (leaf close_line) _ _ ask.words_are refl refl refl refl (ap (λ k. or_else k []) takes.fault) refl
      takes.is
