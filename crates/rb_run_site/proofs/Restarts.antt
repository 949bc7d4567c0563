-- A run over the file that a crash of an earlier run left goes on from where that one was.
use Rattle.std.proofs.Common.{◌≡◌, ℕ, Bool, true, false, cond, List, [], ◌∷◌, ◌++◌, Option, Some, None, refl, sym, ap, subst, ◌∙◌}
use Rattle.std.proofs.Common.{append_assoc, inl, inr}
use Rattle.std.specs.Prelude.{◌⊎◌}
use Rattle.std.specs.List.{concat}
use Rattle.std.specs.Str.{is_utf8}
use Rattle.std.proofs.lemmas.List.{append_cancel_right}
use Rattle.std.proofs.lemmas.Grind.{flat_map-append}
use Rattle.serde_json.specs.Written.{compact_text}
use Rattle.rb_money.specs.Settings.{IsConfigured, Settings}
use Rattle.rb_history.specs.Configurations.{config_at, config_on}
use Rattle.rb_history.specs.Laws.{ReadConfigsAreConfigured}
use Rattle.rb_journal.specs.Lines.{IsIntact, recovered}
use Rattle.rb_site.specs.Seen.{IsReplayed}
use Rattle.rb_history.specs.Ids.{AskedEntry}
use Rattle.rb_node.specs.Asked.{AreIdsOnce, SeenAsked, first_asked, without_ids}
use Rattle.rb_history.specs.ConfigLines.{ConfigsAreRead, config_json}
use Rattle.rb_history.specs.Fits.{Each}
use Rattle.rb_history.proofs.Public.Each.{each_both}
use Rattle.rb_node.specs.LineAnswers.{IsLineAnswer}
use Rattle.rb_node.specs.Laws.{AnswersAreReplayed, AreReplayed, IdsStayOnce}
use Rattle.rb_node.specs.Replays.{IsReadBack, IsReadWhole}
use Rattle.rb_journal.specs.Turns.{AreTurns, Turn, lines_added, state_after}
use Rattle.rb_lines.specs.Lines.{is_long}
use Rattle.rb_run_site.specs.Journals.{AnswersEither, IsAnswer, journal_head, journal_of, lines_of_entries}
use Rattle.rb_run_site.specs.Asking.{AskedOnce}
use Rattle.rb_run_site.specs.Files.{IsNew}
use Rattle.rb_run_site.specs.Openings.{EndsFile}
use Rattle.rb_run_site.specs.Restarts.{Again, HasRestarted, NewJournalsAreTaken, Once, RestartedRunsAreOne, RestartsAreTaken, RestartsGoOn}
use Rattle.rb_run_site.specs.Runs.{HasRun}
use Rattle.rb_run_site.specs.Starts.{Starts}
use Rattle.rb_run_site.proofs.EntryLines.{fed}
use Rattle.rb_run_site.proofs.Stepped.{TakesTurns, are_steps, by_either, turn_taken, turns_taken}
use Rattle.rb_run_site.proofs.Taken.{new_not_at_fault, not_at_fault, same_entry}

-- ---- turns are read back

-- what was replayed from its lines was read from them
each_read : (s : Settings) (me : ℕ) (old : SeenAsked) (xs : List AskedEntry) (new : SeenAsked) → old.settings ≡ s
    → old.me ≡ me
    → AreReplayed old xs new → Each (IsReadBack s me) xs
each_read s me old [] new f g r = tt
each_read s me old (x ∷ xs) new f g r =
    let (next, read, took, rest) = r in (
      subst (λ i. IsReadBack s i x) g (subst (λ c. IsReadBack c old.me x) f read),
      each_read s me next.site xs new (ap (λ (y : SeenAsked). y.settings) took.site ∙ f) (ap (λ (y : SeenAsked). y.me) took.site ∙ g) rest,
    )

-- a turn adds entries that are read back
turn_read : AnswersAreReplayed → (x : SeenAsked) (t : Turn SeenAsked) → IsReplayed (without_ids x)
    → AnswersEither x t.number t.line t.added t.text t.after → IsReadWhole x → IsReadWhole t.after
turn_read replays x t is (all, a) read = by (is_long t.line) a.answered
  where
    own : IsLineAnswer all x t.after t.line t.text (concat t.added) → IsReadWhole t.after
    own answer =
        let some = replays all x t.after t.line t.text (concat t.added) a.configured is.within answer in
        let new : List AskedEntry = some.recorded in
        let more : Each (IsReadBack x.settings x.me) new = each_read x.settings x.me x new t.after refl refl some.replayed in
        subst IsReadWhole (sym some.recorded_are) (each_both (IsReadBack x.settings x.me) x.asked new read more)

    by : (b : Bool) → IsAnswer all b x t.number t.line t.added t.text t.after → IsReadWhole t.after
    by true bad = subst IsReadWhole (sym bad.same) read
    by false (inl answer) = own answer
    by false (inr bad) = subst IsReadWhole (sym bad.3.same) read

turns_read : AnswersAreReplayed → (x : SeenAsked) (turns : List (Turn SeenAsked)) → IsReplayed (without_ids x)
    → AreTurns AnswersEither x turns
    → IsReadWhole x → IsReadWhole (state_after x turns)
turns_read replays x [] is are read = read
turns_read replays x (t ∷ turns) is are read =
    turns_read replays t.after turns (turn_taken x.settings x t refl is are.0).replayed are.1 (turn_read replays x t is are.0 read)

-- ---- ids

-- a turn leaves no two entries of one id
pub turn_once : IdsStayOnce → (x : SeenAsked) (t : Turn SeenAsked)
    → AnswersEither x t.number t.line t.added t.text t.after
    → AreIdsOnce x.asked → AreIdsOnce t.after.asked
turn_once stay x t (all, a) once = by (is_long t.line) a.answered
  where
    same : t.after ≡ x → AreIdsOnce t.after.asked
    same is = subst (λ (y : SeenAsked). AreIdsOnce y.asked) (sym is) once

    by : (b : Bool) → IsAnswer all b x t.number t.line t.added t.text t.after → AreIdsOnce t.after.asked
    by true bad = same bad.same
    by false (inl answer) = stay all x t.after t.line t.text (concat t.added) answer once
    by false (inr bad) = same bad.3.same

-- nor do all turns
pub turns_once : IdsStayOnce → (x : SeenAsked) (turns : List (Turn SeenAsked)) → AreTurns AnswersEither x turns
    → AreIdsOnce x.asked → AreIdsOnce (state_after x turns).asked
turns_once stay x [] are once = once
turns_once stay x (t ∷ turns) are once = turns_once stay t.after turns are.1 (turn_once stay x t are.0 once)

-- ---- a journal is one site's

-- entries that are read back are the same if their lines are
same_entries : (s : Settings) (me : ℕ) (xs ys : List AskedEntry) → Each (IsReadBack s me) xs → Each (IsReadBack s me) ys
    → lines_of_entries s me xs ≡ lines_of_entries s me ys → xs ≡ ys
same_entries s me [] [] h k e = refl
same_entries s me [] (y ∷ ys) h k e = absurd (cc)
same_entries s me (x ∷ xs) (y ∷ ys) h k e =
    let line : fed s me x ≡ fed s me y = cc in
    let later : lines_of_entries s me xs ≡ lines_of_entries s me ys = cc in
    let same : x ≡ y = same_entry s me x y h.0 k.0 (append_cancel_right _ _ (10 ∷ []) line) in
    let rest : xs ≡ ys = same_entries s me xs ys h.1 k.1 later in
    ap (λ z. z ∷ xs) same ∙ ap (λ zs. y ∷ zs) rest
same_entries s me (x ∷ xs) [] h k e = absurd (cc)

-- configurations are the same if their lines are
same_settings : ConfigsAreRead → (s t : Settings) → IsConfigured s → IsConfigured t → journal_head s ≡ journal_head t → s ≡ t
same_settings reads s t c d e =
    let text : compact_text (config_json s) ≡ compact_text (config_json t) = append_cancel_right _ _ (10 ∷ []) e in
    let read : Some s ≡ Some t = sym (reads s c) ∙ ap config_at text ∙ reads t d in
    cc

-- sites of one number and one bank that have one journal, and are read back, are the same
same_site : ConfigsAreRead → (x y : SeenAsked) → IsConfigured x.settings → IsConfigured y.settings → x.me ≡ y.me → x.bank ≡ y.bank
    → IsReadWhole x
    → IsReadWhole y → journal_of x ≡ journal_of y → x ≡ y
same_site reads x y c d m b h k e =
    let head : journal_head x.settings ≡ journal_head y.settings = cc in
    let s : x.settings ≡ y.settings = same_settings reads x.settings y.settings c d head in
    let rest : lines_of_entries x.settings x.me x.asked ≡ lines_of_entries y.settings y.me y.asked = cc in
    let lines : lines_of_entries x.settings x.me x.asked ≡ lines_of_entries x.settings x.me y.asked =
    rest ∙ ap (λ t. lines_of_entries t y.me y.asked) (sym s) ∙ ap (λ i. lines_of_entries x.settings i y.asked) (sym m) in
    let whole : Each (IsReadBack x.settings x.me) y.asked =
    subst (λ i. Each (IsReadBack x.settings i) y.asked) (sym m) (subst (λ t. Each (IsReadBack t y.me) y.asked) (sym s) k) in
    let same : x.asked ≡ y.asked = same_entries x.settings x.me x.asked y.asked h whole lines in
    λ i. record { settings = s i; me = m i; bank = b i; asked = same i }

-- ---- the laws

-- each configuration is read from its line, settings that are read are a configuration's, what answers recorded is
-- replayed, and answers leave no two entries of one id
pub record RestartLaws : Type 0 where
  pub configs : ConfigsAreRead
  pub configured : ReadConfigsAreConfigured
  pub replays : AnswersAreReplayed
  pub ids : IdsStayOnce

config_is : (l : List ℕ) (s : Settings) → config_on l ≡ Some s → config_at l ≡ Some s
unfolding config_on
config_is l s e = at (is_utf8 l) e
  where
    at : (b : Bool) → cond b (config_at l) None ≡ Some s → config_at l ≡ Some s
    at true e = e
    at false e = absurd (cc)

-- a site that a run starts with is of a configuration
is_configured : ReadConfigsAreConfigured → (me : ℕ) (bank : List ℕ) (input : Option (List ℕ)) (lines : List (List ℕ)) (x : SeenAsked)
    → Starts me bank input lines x → IsConfigured x.settings
is_configured read me bank input lines x starts =
    read starts.config x.settings (config_is starts.config x.settings starts.is_of.configured)

-- what all runs so far come to
record Whole (me : ℕ) (bank : List ℕ) (start : SeenAsked) (turns : List (Turn SeenAsked)) (file : List ℕ) : Type 0 where
  configured : IsConfigured start.settings
  number : start.me ≡ me
  named : start.bank ≡ bank
  replayed : IsReplayed (without_ids start)
  read : IsReadWhole start
  once : AreIdsOnce start.asked
  are : AreTurns AnswersEither start turns
  lines_are : recovered file ≡ journal_of start ++ lines_added turns
  intact : IsIntact file

-- a file that isn't without lines is the journal of the site that a run starts with
its_journal : (me : ℕ) (bank : List ℕ) (input : Option (List ℕ)) (lines : List (List ℕ)) (x y : SeenAsked) → Starts me bank input lines x
    → lines ≡ journal_of y → journal_of x ≡ journal_of y
its_journal me bank input lines x y starts is = by starts.journal
  where
    by : ((lines ≡ []) × (x ≡ first_asked x.settings x.me x.bank)) ⊎ (lines ≡ journal_of x) → journal_of x ≡ journal_of y
    by (inl none) = absurd (let e : [] ≡ journal_of y = sym none.0 ∙ is in cc)
    by (inr same) = sym same ∙ is

-- a run starts with the site that the turns led to
next_is : RestartLaws → (me : ℕ) (bank : List ℕ) (start : SeenAsked) (turns : List (Turn SeenAsked)) (file : List ℕ)
    → Whole me bank start turns file
    → (input : Option (List ℕ)) (x : SeenAsked) → Starts me bank input (recovered file) x → x ≡ state_after start turns
next_is laws me bank start turns file w input x starts =
    let last = state_after start turns in
    let all : TakesTurns start.settings start turns = turns_taken start.settings start turns refl w.replayed w.are in
    same_site laws.configs x last (is_configured laws.configured me bank input (recovered file) x starts)
    (subst IsConfigured (sym all.settings) w.configured) (starts.is_of.me_is ∙ sym (all.me ∙ w.number))
    (starts.is_of.bank_is ∙ sym (all.bank ∙ w.named)) starts.read
    (turns_read laws.replays start turns w.replayed w.are w.read)
    (its_journal me bank input (recovered file) x last starts (w.lines_are ∙ sym all.journal))

turns_both : (x : SeenAsked) (ts us : List (Turn SeenAsked)) → AreTurns AnswersEither x ts
    → AreTurns AnswersEither (state_after x ts) us
    → AreTurns AnswersEither x (ts ++ us)
turns_both x [] us h k = k
turns_both x (t ∷ ts) us h k = (h.0, turns_both t.after ts us h.1 k)

-- one run more
longer : RestartLaws → (all : Bool) (me : ℕ) (bank : List ℕ) (most : ℕ) (input : Option (List ℕ))
    (start : SeenAsked) (turns : List (Turn SeenAsked)) (file output c d : List ℕ)
    → Whole me bank start turns file
    → (run : HasRun (record { all = all; me = me; bank = bank; most = most; input = input }) (recovered file) output c d)
    → Whole me bank start (turns ++ run.answered.turns) c
longer laws all me bank most input start turns file output c d w run =
    let us = run.answered.turns in
    let added : List (List ℕ) = lines_added us in
    let same : run.start ≡ state_after start turns = next_is laws me bank start turns file w input run.start run.starts in
    let taken : TakesTurns start.settings start turns = turns_taken start.settings start turns refl w.replayed w.are in
    record {
      configured = w.configured;
      number = w.number;
      named = w.named;
      replayed = w.replayed;
      read = w.read;
      once = w.once;
      are = turns_both start turns us w.are
          (subst (λ y. AreTurns AnswersEither y us) same (by_either all run.start us run.answered.are));
      lines_are = run.answered.lines_are ∙ ap (λ y. journal_of y ++ added) same ∙ ap (λ ls. ls ++ added) taken.journal
          ∙ append_assoc (journal_of start) (lines_added turns) added
          ∙ ap (λ ls. journal_of start ++ ls) (sym (flat_map-append (λ (t : Turn SeenAsked). t.added) turns us));
      intact = run.answered.intact;
    }

whole : RestartLaws → (me : ℕ) (bank : List ℕ) (start : SeenAsked) (turns : List (Turn SeenAsked)) (file : List ℕ)
    → HasRestarted me bank start turns file
    → Whole me bank start turns file
whole laws me bank start turns file (Once {all = all} run) = record {
  configured = is_configured laws.configured me bank _ _ run.start run.starts;
  number = run.starts.is_of.me_is;
  named = run.starts.is_of.bank_is;
  replayed = run.starts.replayed;
  read = run.starts.read;
  once = run.starts.once;
  are = by_either all run.start run.answered.turns run.answered.are;
  lines_are = run.answered.lines_are;
  intact = run.answered.intact;
}
whole laws me bank start turns file (Again {all = all} {turns = ts} {file = f} {most = k} {input = i} {output = o} {d = d} before run) =
    longer laws all me bank k i start ts f o file d (whole laws me bank start ts f before) run

-- a run over the file that the last crash left starts with the site that the turns led to
pub goes_on : RestartLaws → RestartsGoOn
goes_on laws me bank start turns file runs input x starts =
    next_is laws me bank start turns file (whole laws me bank start turns file runs) input x starts

-- all runs are one
pub one_run : RestartLaws → RestartedRunsAreOne
one_run laws me bank start turns file runs =
    let w = whole laws me bank start turns file runs in
    (w.are, are_steps start turns file w.replayed w.are w.lines_are)

-- the file that the last crash left is never at fault
pub is_taken : RestartLaws → RestartsAreTaken
is_taken laws me bank start turns file runs config number fault of is (s, on, low, ends) =
    let w = whole laws me bank start turns file runs in
    let last = state_after start turns in
    let all : TakesTurns start.settings start turns = turns_taken start.settings start turns refl w.replayed w.are in
    let same : Some s ≡ Some start.settings = sym on ∙ of in
    let settings : s ≡ last.settings = let e : s ≡ start.settings = cc in e ∙ sym all.settings in
    let number_is : me ≡ last.me = sym (all.me ∙ w.number) in
    let read = turns_read laws.replays start turns w.replayed w.are w.read in
    let named : bank ≡ last.bank = sym (all.bank ∙ w.named) in
    let same_settings = subst (λ c. EndsFile (first_asked c me bank) file fault) settings ends in
    let same_bank = subst (λ b. EndsFile (first_asked last.settings me b) file fault) named same_settings in
    not_at_fault last file (w.lines_are ∙ sym all.journal) w.intact all.replayed read
    (turns_once laws.ids start turns w.are w.once) fault is
    (subst (λ i. EndsFile (first_asked last.settings i last.bank) file fault) number_is same_bank)

-- nor is the one that a crash left of a new journal
pub new_is_taken : NewJournalsAreTaken
new_is_taken me bank input lines output c d run config number fault of is (s, on, low, ends) =
    let same : Some s ≡ Some run.start.settings = sym on ∙ of in
    let settings : s ≡ run.start.settings = cc in
    new_not_at_fault (first_asked s me bank) c (subst (λ t. IsNew c (journal_head t)) (sym settings) run.still_new.is_new) fault is ends

-- however often a site ran and crashed, no two entries have one id
pub asked_once : RestartLaws → AskedOnce
asked_once laws me bank start turns file runs =
    let w = whole laws me bank start turns file runs in
    turns_once laws.ids start turns w.are w.once
