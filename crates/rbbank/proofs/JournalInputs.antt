-- What an audit and the closing of books read from a site's journal.
use Rattle.std.proofs.Common.{◌≡◌, ◌∙◌, ◌==◌, ℕ, zero, suc, ◌+◌, ◌-◌, Bool, true, false, cond, not, List, [], ◌∷◌, ◌++◌, length, map}
use Rattle.std.proofs.Common.{replicate, take, Option, Some, None, Ok, Err, inl, inr, refl, sym, ap, subst, arith, append_assoc}
use Rattle.std.proofs.Common.{append-nil, eq-eqb}
use Rattle.std.proofs.lemmas.Bool.{and_from, and_parts, not-true}
use Rattle.std.proofs.lemmas.Bool.Decides.{Decides-eqb}
use Rattle.std.proofs.lemmas.List.{length-append, length-map, take_at}
use Rattle.std.proofs.lemmas.Slice.Eq.{bytes_eq-Decides, ends_is}
use Rattle.std.specs.List.{concat, list_all, onto_first}
use Rattle.std.specs.Option.{option_map_or}
use Rattle.std.specs.Prelude.{if◌then◌else◌, option_map, slice_set}
use Rattle.std.specs.Str.{is_utf8}
use Rattle.serde_json.specs.Written.{compact_text}
use Rattle.rb_auditor.specs.Audits.{Audited}
use Rattle.rb_money.specs.Settings.{IsConfigured, Settings}
use Rattle.rb_site.specs.declared.entry.Entry.{Entry}
use Rattle.rb_history.specs.ConfigLines.{ConfigsAreRead, config_json}
use Rattle.rb_history.specs.Configurations.{config_at, config_on}
use Rattle.rb_history.specs.Entries.{asked_entry_json, asked_entry_of_line, asked_entry_on, entry_on}
use Rattle.rb_history.specs.Fits.{Each, ReadEntriesFit}
use Rattle.rb_history.specs.Ids.{AskedEntry, IsAsked, IsIdOrNone}
use Rattle.rb_history.specs.OneLine.{ConfigsAreLines, EntriesAreLines, IsOneLine}
use Rattle.rb_journal.specs.Lines.{sealed}
use Rattle.rb_lines.specs.Lines.{is_blank, is_long, lines_of}
use Rattle.rb_node.specs.Asked.{SeenAsked, entries_alone}
use Rattle.rb_node.specs.Replays.{IsReadBack, IsReadWhole}
use Rattle.rb_run_site.specs.Journals.{journal_of, lines_of_entries}
use Rattle.rb_runs.specs.InputLaws.{HasShortLines}
use Rattle.rb_runs.specs.Inputs.{input_after, input_of, with_entry}
use Rattle.rb_runs.specs.JournalFiles.{bank_by, counted, entry_of_site, is_head, is_sealed, journal_lines, next, with_files}
use Rattle.rb_runs.specs.JournalFiles.{with_journal, with_journal_lines, with_lines, with_next}
use Rattle.rb_runs.specs.declared.books.journal_fault.JournalFault.TheVariants.{AnotherBank, AnotherSite, Count, NotSealed}
use Rattle.rbbank.specs.JournalInputs.{AreSitesFrom, JournalsAreInputs, SealedJournalsAreBooks, input_of_site, sealed_files}

-- ---- the lines of a journal

-- the line of a configuration
abbrev head : Settings → List ℕ
head s = compact_text (config_json s)

-- the line of a site's entry
abbrev entry_text : Settings → ℕ → AskedEntry → List ℕ
entry_text s me x = compact_text (asked_entry_json s me x)

-- the lines of a site's journal, without their line feeds
abbrev texts : SeenAsked → List (List ℕ)
texts x = head x.settings ∷ map (entry_text x.settings x.me) x.asked

-- the line of an entry is one line, and is read as the entry
record IsEntryLine (s : Settings) (me : ℕ) (x : AskedEntry) : Type 0 where
  one : IsOneLine (entry_text s me x)
  read : entry_on s (entry_text s me x) ≡ Some (me, x.entry)

-- each line of a site's journal is one line, and is read as the configuration or as the entry
record AreLines (x : SeenAsked) : Type 0 where
  one : IsOneLine (head x.settings)
  config : config_on (head x.settings) ≡ Some x.settings
  entries : Each (IsEntryLine x.settings x.me) x.asked

-- text that has no line feed is the first line, where a line feed is after it
cut : (l rest : List ℕ) → list_all (λ b. not (b == 10)) l ≡ true → lines_of (l ++ 10 ∷ rest) ≡ l ∷ lines_of rest
cut [] rest h = refl
cut (b ∷ l) rest h = let p = and_parts (not (b == 10)) (list_all (λ c. not (c == 10)) l) h in by (b == 10) refl p.0 (cut l rest p.1)
  where
    by : (t : Bool) → (b == 10) ≡ t → not t ≡ true → lines_of (l ++ 10 ∷ rest) ≡ l ∷ lines_of rest
        → lines_of (b ∷ (l ++ 10 ∷ rest)) ≡ (b ∷ l) ∷ lines_of rest
    by true e h more = absurd (cc)
    by false e h more = rw e (ap (onto_first b) more)

-- the first line of joined lines
first_fed : (l : List ℕ) (ls : List (List ℕ)) (rest : List ℕ) → IsOneLine l
    → lines_of (concat ((l ++ 10 ∷ []) ∷ ls) ++ rest) ≡ l ∷ lines_of (concat ls ++ rest)
first_fed l ls rest one =
    ap lines_of (append_assoc (l ++ 10 ∷ []) (concat ls) rest ∙ append_assoc l (10 ∷ []) (concat ls ++ rest))
    ∙ cut l (concat ls ++ rest) one.no_feed

entries_cut : (s : Settings) (me : ℕ) (xs : List AskedEntry) (rest : List ℕ) → Each (IsEntryLine s me) xs
    → lines_of (concat (lines_of_entries s me xs) ++ rest) ≡ map (entry_text s me) xs ++ lines_of rest
entries_cut s me [] rest are = refl
entries_cut s me (x ∷ xs) rest are = first_fed (entry_text s me x) (lines_of_entries s me xs) rest are.0.one
    ∙ ap (λ ls. entry_text s me x ∷ ls) (entries_cut s me xs rest are.1)

-- a file that begins with a journal has the journal's lines, and then those of the rest
journal_cut : (x : SeenAsked) (rest : List ℕ) → AreLines x → lines_of (concat (journal_of x) ++ rest) ≡ texts x ++ lines_of rest
journal_cut x rest are = first_fed (head x.settings) (lines_of_entries x.settings x.me x.asked) rest are.one
    ∙ ap (λ ls. head x.settings ∷ ls) (entries_cut x.settings x.me x.asked rest are.entries)

-- ---- what they are read as

id_or_none : (x : AskedEntry) → IsAsked x → IsIdOrNone x.id
id_or_none x (inl none) = inl none
id_or_none x (inr p) = inr p.0

-- a line that is read is UTF-8
of_text : (s : Settings) (l : List ℕ) (y : ℕ × AskedEntry) → asked_entry_on s l ≡ Some y → asked_entry_of_line s l ≡ Some y
unfolding asked_entry_on
of_text s l y is = at (is_utf8 l) is
  where
    at : (b : Bool) → cond b (asked_entry_of_line s l) None ≡ Some y → asked_entry_of_line s l ≡ Some y
    at true h = h
    at false h = absurd (cc)

on_text : (s : Settings) (l : List ℕ) (me : ℕ) (x : AskedEntry) → is_utf8 l ≡ true → asked_entry_of_line s l ≡ Some (me, x)
    → entry_on s l ≡ Some (me, x.entry)
unfolding entry_on
on_text s l me x utf8 read = rw utf8 (ap (option_map (λ (y : ℕ × AskedEntry). (y.0, y.1.entry))) read)

config_text : (l : List ℕ) (s : Settings) → is_utf8 l ≡ true → config_at l ≡ Some s → config_on l ≡ Some s
unfolding config_on
config_text l s utf8 read = rw utf8 read

-- the laws that the calls say
pub record LineLaws : Type 0 where
  pub configs : ConfigsAreRead
  pub fit : ReadEntriesFit
  pub config_lines : ConfigsAreLines
  pub entry_lines : EntriesAreLines

entry_line : LineLaws → (s : Settings) → IsConfigured s → (me : ℕ) (x : AskedEntry) → IsReadBack s me x → IsEntryLine s me x
entry_line laws s c me x is =
    let l = entry_text s me x in
    let read = of_text s l (me, x) is in
    let one = laws.entry_lines s c me x (id_or_none x (laws.fit s l me x read).3) in
    record { one = one; read = on_text s l me x one.utf8 read }

entry_lines_are : LineLaws → (s : Settings) → IsConfigured s → (me : ℕ) (xs : List AskedEntry) → Each (IsReadBack s me) xs
    → Each (IsEntryLine s me) xs
entry_lines_are laws s c me [] read = tt
entry_lines_are laws s c me (x ∷ xs) read = (entry_line laws s c me x read.0, entry_lines_are laws s c me xs read.1)

are_lines : LineLaws → (x : SeenAsked) → IsConfigured x.settings → IsReadWhole x → AreLines x
are_lines laws x c read =
    let one = laws.config_lines x.settings c in
    record {
      one = one;
      config = config_text (head x.settings) x.settings one.utf8 (laws.configs x.settings c);
      entries = entry_lines_are laws x.settings c x.me x.asked read;
    }

-- ---- histories

-- the histories with more entries at the end of this site's
abbrev onto : ℕ → List Entry → List (List Entry) → List (List Entry)
onto site ys [] = []
onto zero ys (h ∷ hs) = (h ++ ys) ∷ hs
onto (suc n) ys (h ∷ hs) = h ∷ onto n ys hs

onto-nil : (site : ℕ) (hs : List (List Entry)) → hs ≡ onto site [] hs
onto-nil site [] = refl
onto-nil zero (h ∷ hs) = ap (λ g. g ∷ hs) (sym (append-nil h))
onto-nil (suc n) (h ∷ hs) = ap (λ gs. h ∷ gs) (onto-nil n hs)

-- one more entry, and then more
onto-one : (site : ℕ) (y : Entry) (ys : List Entry) (hs : List (List Entry)) → onto site ys (with_entry site y hs) ≡ onto site (y ∷ ys) hs
onto-one site y ys [] = refl
onto-one zero y ys (h ∷ hs) = ap (λ g. g ∷ hs) (append_assoc h (y ∷ []) ys)
onto-one (suc n) y ys (h ∷ hs) = ap (λ gs. h ∷ gs) (onto-one n y ys hs)

-- where no site has an entry
onto-none : (sites site : ℕ) (ys : List Entry) → onto site ys (replicate sites []) ≡ slice_set (replicate sites []) site ys
onto-none zero site ys = refl
onto-none (suc n) zero ys = refl
onto-none (suc n) (suc site) ys = ap (λ gs. [] ∷ gs) (onto-none n site ys)

-- at the first site after these that has none
onto-next : (front rest : List (List Entry)) (ys : List Entry) → onto (length front) ys (front ++ [] ∷ rest) ≡ front ++ ys ∷ rest
onto-next [] rest ys = refl
onto-next (h ∷ front) rest ys = ap (λ gs. h ∷ gs) (onto-next front rest ys)

-- ---- an audit

-- no line is too long
abbrev AreShort : List (List ℕ) → Type 0
AreShort ls = list_all (λ l. not (is_long l)) ls ≡ true

short_first : (l : List ℕ) (ls : List (List ℕ)) → AreShort (l ∷ ls) → (is_long l ≡ false) × AreShort ls
short_first l ls h = let p = and_parts (not (is_long l)) (list_all (λ k. not (is_long k)) ls) h in (not-true (is_long l) p.0, p.1)

takes_config : (s : Settings) (l : List ℕ) (ls : List (List ℕ)) → is_long l ≡ false → is_blank l ≡ false → config_on l ≡ Some s
    → input_of (l ∷ ls) ≡ input_after s (replicate s.sites []) 2 ls
takes_config s l ls short some on = rw (short, some, on) refl

takes_entry : (s : Settings) (hs : List (List Entry)) (n : ℕ) (l : List ℕ) (ls : List (List ℕ)) (me : ℕ) (x : Entry) → is_long l ≡ false
    → is_blank l ≡ false → entry_on s l ≡ Some (me, x) → input_after s hs n (l ∷ ls) ≡ input_after s (with_entry me x hs) (n + 1) ls
takes_entry s hs n l ls me x short some on = rw (short, some, on) refl

skips_blank : (s : Settings) (hs : List (List Entry)) (n : ℕ) (l : List ℕ) → is_long l ≡ false → is_blank l ≡ true
    → input_after s hs n (l ∷ []) ≡ Ok (record { settings = s; histories = hs })
skips_blank s hs n l short blank = rw (short, blank) refl

-- the lines of a site's entries and one byte more, which is blank, are taken as the entries
takes_entries : (s : Settings) (me b : ℕ) (xs : List AskedEntry) (hs : List (List Entry)) (n : ℕ) → is_blank (b ∷ []) ≡ true
    → Each (IsEntryLine s me) xs → AreShort (map (entry_text s me) xs ++ (b ∷ []) ∷ [])
    → input_after s hs n (map (entry_text s me) xs ++ (b ∷ []) ∷ [])
    ≡ Ok (record { settings = s; histories = onto me (entries_alone xs) hs })
takes_entries s me b [] hs n blank are short =
    skips_blank s hs n (b ∷ []) (short_first (b ∷ []) [] short).0 blank
    ∙ ap (λ gs. Ok (record { settings = s; histories = gs })) (onto-nil me hs)
takes_entries s me b (x ∷ xs) hs n blank are short =
    let l = entry_text s me x in
    let ls = map (entry_text s me) xs ++ (b ∷ []) ∷ [] in
    let p = short_first l ls short in
    takes_entry s hs n l ls me x.entry p.0 refl are.0.read ∙ takes_entries s me b xs (with_entry me x.entry hs) (n + 1) blank are.1 p.1
    ∙ ap (λ gs. Ok (record { settings = s; histories = gs })) (onto-one me x.entry (entries_alone xs) hs)

-- a journal with one byte more, which is blank and no line feed, is taken as the site's input
takes_journal : (x : SeenAsked) (b : ℕ) → AreLines x → is_blank (b ∷ []) ≡ true → lines_of (b ∷ []) ≡ (b ∷ []) ∷ [] → (file : List ℕ)
    → file ≡ concat (journal_of x) ++ b ∷ [] → HasShortLines file → input_of (lines_of file) ≡ Ok (input_of_site x)
takes_journal x b are blank last file is short =
    let s = x.settings in
    let later = map (entry_text s x.me) x.asked ++ (b ∷ []) ∷ [] in
    let lines : lines_of file ≡ head s ∷ later =
    ap lines_of is ∙ journal_cut x (b ∷ []) are ∙ ap (λ ls. texts x ++ ls) last in
    let p = short_first (head s) later (subst AreShort lines short) in
    ap input_of lines ∙ takes_config s (head s) later p.0 refl are.config
    ∙ takes_entries s x.me b x.asked (replicate s.sites []) 2 blank are.entries p.1
    ∙ ap (λ hs. Ok (record { settings = s; histories = hs })) (onto-none s.sites x.me (entries_alone x.asked))

pub inputs_are : LineLaws → JournalsAreInputs
inputs_are laws x c read file (inl rest) short = takes_journal x 32 (are_lines laws x c read) refl refl file rest short
inputs_are laws x c read file (inr end) short = takes_journal x 9 (are_lines laws x c read) refl refl file end short

-- ---- the books

-- a bank of these settings, with these histories
abbrev bank : Settings → List (List Entry) → Audited
bank s hs = record { settings = s; histories = hs }

short_front : (ls ms : List (List ℕ)) → AreShort (ls ++ ms) → AreShort ls
short_front [] ms h = refl
short_front (l ∷ ls) ms h = let p = and_parts (not (is_long l)) (list_all (λ k. not (is_long k)) (ls ++ ms)) h in
    and_from (not (is_long l)) (list_all (λ k. not (is_long k)) ls) p.0 (short_front ls ms p.1)

entry_is : (s : Settings) (me n : ℕ) (l : List ℕ) (x : Entry) → is_long l ≡ false → entry_on s l ≡ Some (me, x)
    → entry_of_site s me n l ≡ Ok x
entry_is s me n l x short on = rw (short, on) (ap (λ b. if b then Ok x else Err (AnotherSite n)) (eq-eqb me me refl))

-- the lines of a site's entries are taken as its entries
entries_taken : (s : Settings) (me : ℕ) (xs : List AskedEntry) (hs : List (List Entry)) (n : ℕ) → Each (IsEntryLine s me) xs
    → AreShort (map (entry_text s me) xs) → with_lines s me hs n (map (entry_text s me) xs) ≡ Ok (bank s (onto me (entries_alone xs) hs))
entries_taken s me [] hs n are short = ap (λ gs. Ok (bank s gs)) (onto-nil me hs)
entries_taken s me (x ∷ xs) hs n are short =
    let l = entry_text s me x in
    let ls = map (entry_text s me) xs in
    let p = short_first l ls short in
    ap (λ r. next r (λ y. with_lines s me (with_entry me y hs) (n + 1) ls)) (entry_is s me n l x.entry p.0 are.0.read)
    ∙ entries_taken s me xs (with_entry me x.entry hs) (n + 1) are.1 p.1
    ∙ ap (λ gs. Ok (bank s gs)) (onto-one me x.entry (entries_alone xs) hs)

-- joined lines end in a line feed
last_feed : (s : Settings) (me : ℕ) (xs : List AskedEntry) (l : List ℕ)
    → (front : List ℕ) × (concat ((l ++ 10 ∷ []) ∷ lines_of_entries s me xs) ≡ front ++ 10 ∷ [])
last_feed s me [] l = (l, append-nil (l ++ 10 ∷ []))
last_feed s me (x ∷ xs) l =
    let later = last_feed s me xs (entry_text s me x) in
    ((l ++ 10 ∷ []) ++ later.0, ap (λ t. (l ++ 10 ∷ []) ++ t) later.1 ∙ sym (append_assoc (l ++ 10 ∷ []) later.0 (10 ∷ [])))

-- a sealed journal is known as one
sealed_is : (x : SeenAsked) → is_sealed (sealed (journal_of x)) ≡ true
sealed_is x =
    let file = sealed (journal_of x) in
    let end = last_feed x.settings x.me x.asked (head x.settings) in
    (ends_is Decides-eqb file (10 ∷ 9 ∷ []) (is_sealed file) refl).1 end.0
    (ap (λ t. t ++ 9 ∷ []) end.1 ∙ append_assoc end.0 (10 ∷ []) (9 ∷ []))

-- before its seal are its lines
lines_before : (x : SeenAsked) → AreLines x → journal_lines (sealed (journal_of x)) ≡ texts x
lines_before x are =
    let text = concat (journal_of x) in
    let many : length (text ++ 9 ∷ []) - 1 ≡ length text = omega (arith, length-append text (9 ∷ [])) in
    ap (λ n. lines_of (take n (text ++ 9 ∷ []))) many
    ∙ ap lines_of (take_at text (9 ∷ []) (length text) refl ∙ sym (append-nil text))
    ∙ journal_cut x [] are ∙ append-nil (texts x)

is_head_of : (s : Settings) → is_head s (head s) ≡ true
is_head_of s = (bytes_eq-Decides (head s) (head s)).1 refl

first_bank : (s : Settings) → config_on (head s) ≡ Some s → bank_by None (head s) ≡ Some (bank s (replicate s.sites []))
first_bank s on = rw on (rw (is_head_of s) refl)

same_bank : (s : Settings) (hs : List (List Entry)) → bank_by (Some (bank s hs)) (head s) ≡ Some (bank s hs)
same_bank s hs = rw (is_head_of s) refl

-- the sealed journal of the first site that has no entry yet is taken as its history
sealed_taken : (x : SeenAsked) (before : Option Audited) (front rest : List (List Entry)) → AreLines x
    → HasShortLines (sealed (journal_of x)) → bank_by before (head x.settings) ≡ Some (bank x.settings (front ++ [] ∷ rest))
    → x.me ≡ length front
    → with_next x.settings.sites x.me before (sealed (journal_of x)) ≡ Ok (bank x.settings (front ++ entries_alone x.asked ∷ rest))
sealed_taken x before front rest are short begins place =
    let s = x.settings in
    let file = sealed (journal_of x) in
    let ls = map (entry_text s x.me) x.asked in
    let hs = front ++ [] ∷ rest in
    let gs = front ++ entries_alone x.asked ∷ rest in
    let each : AreShort (texts x) = short_front (texts x) ((9 ∷ []) ∷ []) (subst AreShort (journal_cut x (9 ∷ []) are) short) in
    let journal : with_journal x.me before file ≡ Ok (bank s gs) =
    ap (λ b. if b then with_journal_lines x.me before (journal_lines file) else Err NotSealed) (sealed_is x)
    ∙ ap (with_journal_lines x.me before) (lines_before x are)
    ∙ ap (λ o. option_map_or (λ (a : Audited). with_lines a.settings x.me a.histories 2 ls) o (Err AnotherBank)) begins
    ∙ entries_taken s x.me x.asked hs 2 are.entries (short_first (head s) ls each).1
    ∙ ap (λ ks. Ok (bank s ks)) (ap (λ n. onto n (entries_alone x.asked) hs) place ∙ onto-next front rest (entries_alone x.asked)) in
    ap (λ r. next r (counted s.sites)) journal
    ∙ ap (λ b. if b then Ok (bank s gs) else Err (Count s.sites s.sites)) (eq-eqb s.sites s.sites refl)

-- so it is with site n of a bank of these settings
site_taken : (s : Settings) (n : ℕ) (x : SeenAsked) (before : Option Audited) (front rest : List (List Entry)) → AreLines x
    → HasShortLines (sealed (journal_of x)) → bank_by before (head s) ≡ Some (bank s (front ++ [] ∷ rest)) → x.me ≡ n → x.settings ≡ s
    → n ≡ length front
    → with_next s.sites n before (sealed (journal_of x)) ≡ Ok (bank s (front ++ entries_alone x.asked ∷ rest))
site_taken s n x before front rest are short begins me settings place =
    let file = sealed (journal_of x) in
    let P : Settings → Type 0 = λ t. bank_by before (head t) ≡ Some (bank t (front ++ [] ∷ rest))
    → with_next t.sites x.me before file ≡ Ok (bank t (front ++ entries_alone x.asked ∷ rest)) in
    ap (λ m. with_next s.sites m before file) (sym me)
    ∙ subst P settings (λ b. sealed_taken x before front rest are short b (me ∙ place)) begins

-- and with the sites after those of these histories
sites_taken : (s : Settings) (n : ℕ) (xs : List SeenAsked) (front : List (List Entry)) → Each AreLines xs → AreSitesFrom n s xs
    → Each HasShortLines (sealed_files xs) → n ≡ length front
    → with_files s.sites n (Some (bank s (front ++ replicate (length xs) []))) (sealed_files xs)
    ≡ Ok (Some (bank s (front ++ map (λ x. entries_alone x.asked) xs)))
sites_taken s n [] front are sites short place = refl
sites_taken s n (x ∷ xs) front are sites short place =
    let rest : List (List Entry) = replicate (length xs) [] in
    let h = entries_alone x.asked in
    let hs = map (λ (y : SeenAsked). entries_alone y.asked) xs in
    let next_place : n + 1 ≡ length (front ++ h ∷ []) = omega (arith, place, length-append front (h ∷ [])) in
    ap (λ r. next r (λ a. with_files s.sites (n + 1) (Some a) (sealed_files xs)))
    (site_taken s n x (Some (bank s (front ++ [] ∷ rest))) front rest are.0 short.0 (same_bank s (front ++ [] ∷ rest))
    sites.0 sites.1 place)
    ∙ ap (λ gs. with_files s.sites (n + 1) (Some (bank s gs)) (sealed_files xs)) (sym (append_assoc front (h ∷ []) rest))
    ∙ sites_taken s (n + 1) xs (front ++ h ∷ []) are.1 sites.2 short.1 next_place
    ∙ ap (λ gs. Ok (Some (bank s gs))) (append_assoc front (h ∷ []) hs)

sites_counted : (s : Settings) (n : ℕ) (xs : List SeenAsked) → AreSitesFrom n s xs → n + length xs ≡ s.sites
sites_counted s n [] sites = omega (arith, sites)
sites_counted s n (x ∷ xs) sites = omega (arith, sites_counted s (n + 1) xs sites.2)

each_lines : LineLaws → (s : Settings) → IsConfigured s → (n : ℕ) (xs : List SeenAsked) → AreSitesFrom n s xs → Each IsReadWhole xs
    → Each AreLines xs
each_lines laws s c n [] sites read = tt
each_lines laws s c n (x ∷ xs) sites read =
    (are_lines laws x (subst IsConfigured (sym sites.1) c) read.0, each_lines laws s c (n + 1) xs sites.2 read.1)

pub books_are : LineLaws → SealedJournalsAreBooks
books_are laws s c [] sites read short = absurd (omega (arith, sites, c.some_sites))
books_are laws s c (x ∷ xs) sites read short =
    let are = each_lines laws s c 0 (x ∷ xs) sites read in
    let rest : List (List Entry) = replicate (length xs) [] in
    let count : 1 + length xs ≡ s.sites = omega (arith, sites_counted s 0 (x ∷ xs) sites) in
    let files : length (sealed_files xs) ≡ length xs = length-map xs (λ y. sealed (journal_of y)) in
    let all : length (sealed_files (x ∷ xs)) ≡ s.sites = omega (arith, files, count) in
    let sized : s.sites ≡ suc (length xs) = omega (arith, count) in
    let first : bank_by None (head s) ≡ Some (bank s ([] ∷ rest)) =
    first_bank s (subst (λ t. config_on (head t) ≡ Some t) sites.1 are.0.config) ∙ ap (λ n. Some (bank s (replicate n []))) sized in
    ap (λ n. with_files n 0 None (sealed_files (x ∷ xs))) all
    ∙ ap (λ r. next r (λ a. with_files s.sites 1 (Some a) (sealed_files xs)))
    (site_taken s 0 x None [] rest are.0 short.0 first sites.0 sites.1 refl)
    ∙ sites_taken s 1 xs (entries_alone x.asked ∷ []) are.1 sites.2 short.1 refl
