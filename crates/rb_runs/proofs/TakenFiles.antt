-- Journals that are taken one after another, and what closing the books says where it stops.
use Rattle.rb_runs.proofs.Words.{◌≡◌, ◌∙◌, ◌⊎◌, ◌<◌, ◌≤◌, ℕ, ◌+◌, List, [], ◌∷◌, ◌++◌, length, refl, ap, sym, subst, arith, inl, inr}
use Rattle.rb_runs.proofs.Words.{option_map_or, ◌==◌, IfSome, MatchOption, None, Option, Some, Result}
use Rattle.rb_runs.proofs.Words.{Ok, Err, option_map, suc, length-append, Audited, IsAddedFault, added_fault, NextBank, Settings, Entry}
use Rattle.rb_runs.proofs.Words.{with_entry, EndsAtFile, TakesFile, counted, entry_of_site, is_head, is_sealed, journal_lines, next}
use Rattle.rb_runs.proofs.Words.{with_files, with_journal, with_journal_lines, with_lines, with_next, ClosesAs, HasTaken}
use Rattle.std.proofs.lemmas.Bool.{cond_both}
use Rattle.rb_runs.specs.declared.books.added_fault.AddedFault.{AddedFault}
use Rattle.rb_runs.specs.declared.books.close_fault.CloseFault.TheVariants.{Added, Journal, Unread}
use Rattle.rb_runs.specs.declared.books.journal_fault.JournalFault.TheVariants.{AnotherBank, Count, NotSealed, OutOfMemory}
use Rattle.rb_runs.specs.declared.books.closing.Closing.{Closing}
use Rattle.rb_runs.specs.declared.books.journal_fault.JournalFault.{JournalFault}

-- what files and one more say: the last is the journal of the site after theirs
pub with-one-more : (journals site : ℕ) (before : Option Audited) (files : List (List ℕ)) (file : List ℕ)
    → with_files journals site before (files ++ file ∷ [])
    ≡ next (with_files journals site before files) (λ b. next (with_next journals (site + length files) b file) (λ a. Ok (Some a)))
with-one-more journals site before [] file =
    let same : site ≡ site + 0 = omega arith in ap (λ n. next (with_next journals n before file) (λ a. Ok (Some a))) same
with-one-more journals site before (f ∷ files) file =
    by (λ a. with-one-more journals (site + 1) (Some a) files file) (with_next journals site before f)
  where
    by : ((a : Audited) → with_files journals (site + 1) (Some a) (files ++ file ∷ [])
        ≡ next (with_files journals (site + 1) (Some a) files)
        (λ b. next (with_next journals (site + 1 + length files) b file) (λ x. Ok (Some x))))
        → (r : Result Audited JournalFault) → next r (λ a. with_files journals (site + 1) (Some a) (files ++ file ∷ []))
        ≡ next (next r (λ a. with_files journals (site + 1) (Some a) files))
        (λ b. next (with_next journals (site + suc (length files)) b file) (λ a. Ok (Some a)))
    by more (Err why) = refl
    by more (Ok a) = let same : site + 1 + length files ≡ site + suc (length files) = omega arith in
        more a ∙ ap (λ n. next (with_files journals (site + 1) (Some a) files)
        (λ b. next (with_next journals n b file) (λ x. Ok (Some x)))) same

-- before any file
pub nothing-taken : (c : Closing) (ask : NextBank) (files : List (List ℕ))
    → c.taken ≡ 0 → c.auditor ≡ None → files ≡ [] → HasTaken c ask files
nothing-taken c ask files none empty unread = record {
  count = none ∙ ap length (sym unread);
  said = subst (λ fs. with_files c.journals 0 None fs ≡ Ok c.auditor) (sym unread) (ap Ok (sym empty));
  added = subst (λ o. IfSome o (λ (bank : Audited). added_fault (Some bank.settings) ask.added ≡ None)) (sym empty) tt;
}

-- what the files say with one more after those that were taken
said-next : (c : Closing) (ask : NextBank) (files : List (List ℕ)) (file : List ℕ) → HasTaken c ask files
    → with_files c.journals 0 None (files ++ file ∷ []) ≡ next (with_next c.journals c.taken c.auditor file) (λ a. Ok (Some a))
said-next c ask files file taken =
    let place : 0 + length files ≡ c.taken = omega (arith, taken.count) in
    with-one-more c.journals 0 None files file
    ∙ ap (λ r. next r (λ b. next (with_next c.journals (0 + length files) b file) (λ a. Ok (Some a)))) taken.said
    ∙ ap (λ n. next (with_next c.journals n c.auditor file) (λ a. Ok (Some a))) place

-- what they say with one more that was taken
said-more : (old new : Closing) (ask : NextBank) (files : List (List ℕ)) (file : List ℕ) → HasTaken old ask files
    → (took : TakesFile old new file) → with_files old.journals 0 None (files ++ file ∷ []) ≡ Ok (Some took.bank)
said-more old new ask files file taken took = said-next old ask files file taken ∙ ap (λ r. next r (λ a. Ok (Some a))) took.said

-- one more file was taken, and the accounts may be added
pub one-more-taken : (old new : Closing) (ask : NextBank) (files all : List (List ℕ)) (file : List ℕ) → all ≡ files ++ file ∷ []
    → HasTaken old ask files → (took : TakesFile old new file) → added_fault (Some took.bank.settings) ask.added ≡ None
    → HasTaken new ask all
one-more-taken old new ask files all file e taken took added = record {
  count = let n : length all ≡ length files + 1 = ap length e ∙ length-append files (file ∷ []) in
      omega (arith, n, taken.count, took.taken);
  said = subst (λ fs. with_files new.journals 0 None fs ≡ Ok new.auditor) (sym e)
      (ap (λ n. with_files n 0 None (files ++ file ∷ [])) took.journals ∙ said-more old new ask files file taken took
      ∙ ap Ok (sym took.is));
  added = subst (λ o. IfSome o (λ (bank : Audited). added_fault (Some bank.settings) ask.added ≡ None)) (sym took.is) added;
}

-- ---- a later journal is of the same bank

-- the settings of a bank, or these if there is a fault
abbrev settings-or : Settings → Result Audited JournalFault → Settings
settings-or s (Ok a) = a.settings
settings-or s (Err why) = s

-- what holds of each outcome of what comes next, and of each fault
next-all : {A B : Type 0} (P : Result B JournalFault → Type 0) (r : Result A JournalFault) (more : A → Result B JournalFault)
    → ((x : A) → P (more x)) → ((why : JournalFault) → P (Err why)) → P (next r more)
next-all P (Ok x) more each faults = each x
next-all P (Err why) more each faults = faults why

lines-keep : (s : Settings) (site : ℕ) (hs : List (List Entry)) (n : ℕ) (ls : List (List ℕ)) → settings-or s (with_lines s site hs n ls) ≡ s
lines-keep s site hs n [] = refl
lines-keep s site hs n (l ∷ ls) =
    next-all (λ r. settings-or s r ≡ s) (entry_of_site s site n l) (λ x. with_lines s site (with_entry site x hs) (n + 1) ls)
    (λ x. lines-keep s site (with_entry site x hs) (n + 1) ls) (λ why. refl)

journal-lines-keep : (a : Audited) (site : ℕ) (ls : List (List ℕ))
    → settings-or a.settings (with_journal_lines site (Some a) ls) ≡ a.settings
journal-lines-keep a site [] = refl
journal-lines-keep a site (l ∷ ls) =
    cond_both (is_head a.settings l) (Some a) None
    (λ o. settings-or a.settings (option_map_or (λ (x : Audited). with_lines x.settings site x.histories 2 ls) o (Err AnotherBank))
    ≡ a.settings) (λ _. lines-keep a.settings site a.histories 2 ls) (λ _. refl)

journal-keeps : (a : Audited) (site : ℕ) (file : List ℕ) → settings-or a.settings (with_journal site (Some a) file) ≡ a.settings
journal-keeps a site file =
    cond_both (is_sealed file) (with_journal_lines site (Some a) (journal_lines file)) (Err NotSealed)
    (λ r. settings-or a.settings r ≡ a.settings) (λ _. journal-lines-keep a site (journal_lines file)) (λ _. refl)

count-keeps : (s : Settings) (journals : ℕ) (r : Result Audited JournalFault) → settings-or s r ≡ s
    → settings-or s (next r (counted journals)) ≡ s
count-keeps s journals (Err why) e = refl
count-keeps s journals (Ok a) e =
    cond_both (journals == a.settings.sites) (Ok a) (Err (Count journals a.settings.sites)) (λ r. settings-or s r ≡ s) (λ _. e) (λ _. refl)

-- what is taken after other journals is of their bank
same-bank : (journals site : ℕ) (a b : Audited) (file : List ℕ) → with_next journals site (Some a) file ≡ Ok b → b.settings ≡ a.settings
same-bank journals site a b file e = sym (ap (settings-or a.settings) e)
    ∙ count-keeps a.settings journals (with_journal site (Some a) file) (journal-keeps a site file)

-- after a bank's journals there is a bank
some-after : (journals site : ℕ) (a : Audited) (fs : List (List ℕ)) → ¬ (with_files journals site (Some a) fs ≡ Ok None)
some-after journals site a [] = λ e. cc
some-after journals site a (f ∷ fs) =
    next-all (λ r. ¬ (r ≡ Ok None)) (with_next journals site (Some a) f) (λ b. with_files journals (site + 1) (Some b) fs)
    (λ b. some-after journals (site + 1) b fs) (λ why e. cc)

-- some file was taken, so there is a bank
some-bank : (journals site : ℕ) (before : Option Audited) (f : List ℕ) (fs : List (List ℕ))
    → ¬ (with_files journals site before (f ∷ fs) ≡ Ok None)
some-bank journals site before f fs =
    next-all (λ r. ¬ (r ≡ Ok None)) (with_next journals site before f) (λ a. with_files journals (site + 1) (Some a) fs)
    (λ a. some-after journals (site + 1) a fs) (λ why e. cc)

-- the accounts may be added after those of the bank, since they might before
pub still-added : (old new : Closing) (ask : NextBank) (files : List (List ℕ)) (file : List ℕ) → HasTaken old ask files
    → (took : TakesFile old new file) → 0 < old.taken → added_fault (Some took.bank.settings) ask.added ≡ None
still-added old new ask files file taken took some = by old.auditor refl
  where
    none : (fs : List (List ℕ)) → files ≡ fs → old.auditor ≡ None → ⊥
    none [] e empty = let n : length files ≡ 0 = ap length e in absurd (omega (arith, n, some, taken.count))
    none (f ∷ fs) e empty = some-bank old.journals 0 None f fs
        (ap (with_files old.journals 0 None) (sym e) ∙ taken.said ∙ ap Ok empty)

    by : (o : Option Audited) → old.auditor ≡ o → added_fault (Some took.bank.settings) ask.added ≡ None
    by None e = absurd (none files refl e)
    by (Some a) e = ap (λ s. added_fault (Some s) ask.added)
        (same-bank old.journals old.taken a took.bank file (ap (λ b. with_next old.journals old.taken b file) (sym e) ∙ took.said))
        ∙ subst (λ q. IfSome q (λ (bank : Audited). added_fault (Some bank.settings) ask.added ≡ None)) e taken.added

-- ---- where it stops

-- the next file isn't read
pub unread : (c : Closing) (ask : NextBank) (files all : List (List ℕ)) (site : ℕ) → HasTaken c ask files → all ≡ files → site ≡ c.taken
    → c.taken < c.journals → ClosesAs ask c.journals all (Err (Unread site)) []
unread c ask files all site taken e at more = subst (λ fs. ClosesAs ask c.journals fs (Err (Unread site)) []) (sym e)
    (refl, at ∙ taken.count, omega (arith, at, more), (c.auditor, taken.said))

-- the next file is at fault
pub fault-of : (c : Closing) (ask : NextBank) (files all : List (List ℕ)) (file : List ℕ) (site : ℕ) (why : JournalFault)
    → HasTaken c ask files
    → all ≡ files ++ file ∷ [] → site ≡ c.taken → EndsAtFile c file why → ClosesAs ask c.journals all (Err (Journal site why)) []
fault-of c ask files all file site why taken e at ends =
    let n : length all ≡ length files + 1 = ap length e ∙ length-append files (file ∷ []) in
    (refl, omega (arith, n, at, taken.count), by ends)
  where
    by : EndsAtFile c file why → (why ≡ OutOfMemory) ⊎ (with_files c.journals 0 None all ≡ Err why)
    by (inl e) = inl e
    by (inr said) = inr (ap (with_files c.journals 0 None) e ∙ said-next c ask files file taken ∙ ap (λ r. next r (λ a. Ok (Some a))) said)

-- the first journal was taken, and its bank can't have the accounts
pub not-added : (old new : Closing) (ask : NextBank) (files all : List (List ℕ)) (file : List ℕ) (why : AddedFault) → HasTaken old ask files
    → all ≡ files ++ file ∷ [] → old.taken ≡ 0 → (took : TakesFile old new file)
    → IsAddedFault (Some took.bank.settings) ask.added why → ClosesAs ask old.journals all (Err (Added why)) []
not-added old new ask files all file why taken e first took fault =
    subst (λ fs. ClosesAs ask old.journals fs (Err (Added why)) []) (sym e) (by files refl)
  where
    by : (fs : List (List ℕ)) → files ≡ fs → ClosesAs ask old.journals (fs ++ file ∷ []) (Err (Added why)) []
    by [] same = (
      refl,
      (
        took.bank,
        subst (λ fs. with_files old.journals 0 None (fs ++ file ∷ []) ≡ Ok (Some took.bank)) same
            (said-more old new ask files file taken took),
        fault,
      ),
    )
    by (f ∷ fs) same = let n : length files ≡ suc (length fs) = ap length same in absurd (omega (arith, n, first, taken.count))

-- the configuration that there is once a journal was taken
settings-of : Settings → Option Audited → Settings
settings-of s None = s
settings-of s (Some a) = a.settings

pub config-is : {C : Type 0} (now : C → Settings) (o : Option C) (auditor : Option Audited) (bank : Audited) → auditor ≡ Some bank
    → MatchOption o (auditor ≡ None) (λ c. (b : Audited) × (auditor ≡ Some b) × (now c ≡ b.settings))
    → option_map now o ≡ Some bank.settings
unfolding settings-of
config-is now None auditor bank is empty = let wrong : Some bank ≡ None = sym is ∙ empty in cc
config-is now (Some c) auditor bank is (b, same, e) = ap Some (e ∙ ap (settings-of bank.settings) (sym same ∙ is))

-- ---- if all were taken

-- there is a bank if all of some journals were taken
pub bank-there : (c : Closing) (ask : NextBank) (files : List (List ℕ)) (journals : ℕ) → HasTaken c ask files → c.taken ≡ journals
    → 1 ≤ journals → ¬ (c.auditor ≡ None)
bank-there c ask files journals taken all some none = by files refl
  where
    by : (fs : List (List ℕ)) → files ≡ fs → ⊥
    by [] e = let n : length files ≡ 0 = ap length e in omega (arith, n, some, all, taken.count)
    by (f ∷ fs) e = some-bank c.journals 0 None f fs (ap (with_files c.journals 0 None) (sym e) ∙ taken.said ∙ ap Ok none)

-- and the accounts may be added to it
pub added-there : (c : Closing) (ask : NextBank) (files : List (List ℕ)) (bank : Audited) → HasTaken c ask files → c.auditor ≡ Some bank
    → added_fault (Some bank.settings) ask.added ≡ None
added-there c ask files bank taken is =
    subst (λ o. IfSome o (λ (b : Audited). added_fault (Some b.settings) ask.added ≡ None)) is taken.added
