-- An audit accepts the text of a script's histories.
use Rattle.rb_runs.proofs.Words.{◌≡◌, ℕ, suc, ◌+◌, ◌<◌, Bool, true, false, List, [], ◌∷◌, ◌++◌, length, map, Option, Some, None, Result}
use Rattle.rb_runs.proofs.Words.{Ok, Err, refl, sym, ap, ◌∙◌, subst, inl, arith, if◌then◌else◌, slice_get, option_map_or, length-map}
use Rattle.rb_runs.proofs.Words.{IsConfigured, Settings, Entry, Event, WorldEvent, At, Deliver, ModelSite, after_events, first_site}
use Rattle.rb_runs.proofs.Words.{AreOneWorlds, histories_of, history_of, with_replies, AreOwn, World, world_after_all, world_of_run}
use Rattle.rb_runs.proofs.Words.{after_events-append, SeenWorld, next_world, next_worlds, opened, sites_of_run, config_on, Each, IsEvent}
use Rattle.rb_runs.proofs.Words.{ReadConfigsAreConfigured, command_on, IsFittingCommand, ReadCommandsFit, RepliesFitLines, each_both}
use Rattle.rb_runs.proofs.Words.{is_blank, is_long, lines_of, ScriptFault, BadConfig, BadLine, LongLine, Read, Write, OutOfMemory, Gather}
use Rattle.rb_runs.proofs.Words.{AuditEndsAs, HasShortLines, InputsAreReadBack, IsWritable, Input, input_of, recording_by, recording_from}
use Rattle.rb_runs.proofs.Words.{recording_in, Commands, commands_from, stops, with_command, text_of}
use Rattle.rb_history.specs.Banks.{MessagesAreRead, ReadEventsFit}
use Rattle.rb_runs.specs.RecordingLaws.{HistoriesAreAccepted, IsAccepted, IsNoRefusal}
use Rattle.rb_runs.proofs.Entries.{all_numbered, numbered, same_histories, same_text}
use Rattle.rb_runs.proofs.ReadAgain.{config_is}
use Rattle.rb_runs.proofs.RunFits.{HasFitting, IsFittingWorld, ReceiptsFit, run_fits}

-- ---- the script

commands_fit : ReadCommandsFit → (s : Settings) (n : ℕ) (ls : List (List ℕ)) → Each (IsFittingCommand s) (commands_from s n ls).commands
commands_fit fit s n [] = tt
commands_fit fit s n (l ∷ ls) = by (is_long l) (is_blank l) (command_on s l) refl (commands_fit fit s (n + 1) ls)
  where
    rest : Commands
    rest = commands_from s (n + 1) ls

    by : (long blank : Bool) (o : Option WorldEvent) → command_on s l ≡ o → Each (IsFittingCommand s) rest.commands
        → Each (IsFittingCommand s) (if long then stops (LongLine n) else (if blank then rest
        else option_map_or (λ c. with_command c rest) o (stops (BadLine n)))).commands
    by true blank o is later = tt
    by false true o is later = later
    by false false None is later = tt
    by false false (Some c) is later = (fit s l c is, later)

-- the histories are those of a run of commands that fit, under a configuration that was read
record IsRecorded (x : Input) : Type 0 where
  settings : Settings
  line : List ℕ
  config : config_on line ≡ Some settings
  commands : List WorldEvent
  fit : Each (IsFittingCommand settings) commands
  is : record { settings = settings; histories = histories_of settings (world_of_run settings commands) } ≡ x

ok_same : (x y : Input) (r : Result Input ScriptFault) → r ≡ Ok x → r ≡ Ok y → x ≡ y
ok_same x y r is too = cc (is, too)

-- the world's run of the commands
runs : (w : SeenWorld) (cs : List WorldEvent)
    → ((next_worlds w cs).settings ≡ w.settings) × ((next_worlds w cs).world ≡ world_after_all w.settings w.world cs)
runs w [] = (refl, refl)
runs w (c ∷ cs) = runs (next_world w c) cs

ran : (s : Settings) (cs : List WorldEvent)
    → recording_in (next_worlds (opened s) cs) ≡ record { settings = s; histories = histories_of s (world_of_run s cs) }
ran s cs =
    let p = runs (opened s) cs in
    let v = (next_worlds (opened s) cs).world in
    ap (λ (t : Settings). record { settings = t; histories = histories_of t v }) p.0
    ∙ ap (λ w. record { settings = s; histories = histories_of s w }) p.1

unfaulted : (x r : Input) (fault : Option ScriptFault) → option_map_or (λ f. Err f) fault (Ok r) ≡ Ok x → r ≡ x
unfaulted x r None e = ok_same r x (Ok r) refl e
unfaulted x r (Some f) e = absurd (cc e)

recorded_script : ReadCommandsFit → (x : Input) (n : ℕ) (ls : List (List ℕ)) → recording_from n ls ≡ Ok x → IsRecorded x
recorded_script fit x n [] e = absurd (cc e)
recorded_script fit x n (l ∷ ls) e = by (is_long l) (is_blank l) (config_on l) refl (recorded_script fit x (n + 1) ls) e
  where
    by : (long blank : Bool) (o : Option Settings) → config_on l ≡ o → (recording_from (n + 1) ls ≡ Ok x → IsRecorded x)
        → (if long then Err (LongLine n) else (if blank then recording_from (n + 1) ls
        else option_map_or (λ s. recording_by (opened s) (commands_from s (n + 1) ls)) o (Err (BadConfig n)))) ≡ Ok x → IsRecorded x
    by true blank o is later e = absurd (cc e)
    by false true o is later e = later e
    by false false None is later e = absurd (cc e)
    by false false (Some s) is later e =
        let cs = commands_from s (n + 1) ls in
        record {
          settings = s;
          line = l;
          config = is;
          commands = cs.commands;
          fit = commands_fit fit s (n + 1) ls;
          is = sym (ran s cs.commands) ∙ unfaulted x (recording_in (next_worlds (opened s) cs.commands)) cs.fault e;
        }

own : (s : Settings) (cs : List WorldEvent) → Each (IsFittingCommand s) cs → AreOwn cs
own s [] h = tt
own s (At i e ∷ cs) h = (h.0.0, own s cs h.1)
own s (Deliver i k ∷ cs) h = own s cs h.1

-- ---- its entries

entries_fit : (s : Settings) → RepliesFitLines → IsConfigured s → (me : ℕ) → me < s.sites → (before es : List Event) → Each (IsEvent s) es
    → Each (IsWritable s) (numbered me (with_replies s (after_events s (first_site me) before) es))
entries_fit s replies c me here before [] h = tt
entries_fit s replies c me here before (e ∷ es) h =
    let later = entries_fit s replies c me here (before ++ e ∷ []) es h.1 in
    let state = after_events-append s before (e ∷ []) (first_site me) in
    let P : ModelSite → Type 0 = λ t. Each (IsWritable s) (numbered me (with_replies s t es)) in
    ((here, h.0, replies s c me here before e), subst P state later)

site_writable : (s : Settings) → RepliesFitLines → IsConfigured s → (i : ℕ) (t : ModelSite) → HasFitting s i t
    → Each (IsWritable s) (numbered i (history_of s t))
site_writable s replies c i t h =
    let P : ℕ → Type 0 = λ n. Each (IsWritable s) (numbered i (with_replies s (first_site n) t.history)) in
    subst P (sym h.me) (entries_fit s replies c i h.here [] t.history h.events)

all_writable : (s : Settings) → RepliesFitLines → IsConfigured s → (n : ℕ) (ts : List ModelSite)
    → ((k : ℕ) (t : ModelSite) → slice_get ts k ≡ Some t → HasFitting s (n + k) t)
    → Each (IsWritable s) (all_numbered n (map (history_of s) ts))
all_writable s replies c n [] each = tt
all_writable s replies c n (t ∷ ts) each =
    let P : ℕ → Type 0 = λ m. HasFitting s m t in
    let here : HasFitting s n t = subst P (let q : n + 0 ≡ n = omega arith in q) (each 0 t refl) in
    let later : (k : ℕ) (u : ModelSite) → slice_get ts k ≡ Some u → HasFitting s ((n + 1) + k) u =
    λ k u at.
    let Q : ℕ → Type 0 = λ m. HasFitting s m u in
    subst Q (let q : n + suc k ≡ (n + 1) + k = omega arith in q) (each (suc k) u at) in
    each_both (IsWritable s) (numbered n (history_of s t)) (all_numbered (n + 1) (map (history_of s) ts))
    (site_writable s replies c n t here) (all_writable s replies c (n + 1) ts later)

-- ---- the audit

not_refused : (x : Input) (text : List ℕ) → AreOneWorlds x.settings x.histories → input_of (lines_of text) ≡ Ok x
    → (r : Result Bool ScriptFault) (left : Option (List ℕ)) (line : List ℕ) → AuditEndsAs r text left line → IsNoRefusal r
not_refused x text one taken (Ok true) left line h = refl
not_refused x text one taken (Ok false) left line (y, is, (none, why), all) =
    let same : x ≡ y = ok_same x y (input_of (lines_of text)) taken is in
    absurd (none (subst (λ (z : Input). AreOneWorlds z.settings z.histories) same one))
not_refused x text one taken (Err Read) left line h = tt
not_refused x text one taken (Err Write) left line h = tt
not_refused x text one taken (Err OutOfMemory) left line h = tt
not_refused x text one taken (Err Gather) left line h = absurd h
not_refused x text one taken (Err _) left line h = let e = sym taken ∙ h.0 in absurd (cc e)

-- each message that a site sent is read as what another receives, so it fits
receipts_fit : MessagesAreRead → ReadEventsFit → (s : Settings) → IsConfigured s → ReceiptsFit s
receipts_fit messages events s c m sent =
    (events s [] _ _ (messages s c sent.me sent.is_site sent.events m sent.among [] (inl refl))).0

pub accepted : ReadConfigsAreConfigured → ReadCommandsFit → ReadEventsFit → MessagesAreRead → RepliesFitLines → InputsAreReadBack
    → HistoriesAreAccepted
accepted configs commands events messages replies inputs input x is =
    let r = recorded_script commands x 1 (lines_of input) is in
    let s = r.settings in
    let w = world_of_run s r.commands in
    let hs = histories_of s w in
    let c = configs r.line s (config_is r.line s r.config) in
    let fits = run_fits s r.commands (receipts_fit messages events s c) r.fit in
    let one : AreOneWorlds s hs = record { events = r.commands; own = own s r.commands r.fit; gives = refl } in
    let many : length hs ≡ s.sites = length-map w.sites (history_of s) ∙ sites_of_run s r.commands in
    let P : Input → Type 0 = λ y. AreOneWorlds y.settings y.histories
    × (HasShortLines (text_of y.settings y.histories) → IsAccepted y (text_of y.settings y.histories)) in
    subst P r.is (one, λ short. at s hs c one many (all_writable s replies c 0 w.sites (λ k t there. site_at s w fits k t there)) short)
  where
    site_at : (s : Settings) (w : World) → IsFittingWorld s w → (k : ℕ) (t : ModelSite) → slice_get w.sites k ≡ Some t
        → HasFitting s (0 + k) t
    site_at s w fits k t there =
        let P : ℕ → Type 0 = λ m. HasFitting s m t in
        subst P (let q : k ≡ 0 + k = omega arith in q) (fits.sites k t there)

    at : (s : Settings) (hs : List (List Entry)) → IsConfigured s → AreOneWorlds s hs → length hs ≡ s.sites
        → Each (IsWritable s) (all_numbered 0 hs) → HasShortLines (text_of s hs)
        → IsAccepted (record { settings = s; histories = hs }) (text_of s hs)
    at s hs c one many fits short =
        let text = same_text s hs in
        let taken : input_of (lines_of (text_of s hs)) ≡ Ok (record { settings = s; histories = hs }) =
        ap (λ t. input_of (lines_of t)) (sym text)
        ∙ inputs s c (all_numbered 0 hs) fits (subst HasShortLines (sym text) short)
        ∙ ap (λ gs. Ok (record { settings = s; histories = gs })) (same_histories s.sites hs many) in
        record { taken = taken; accepted = not_refused _ (text_of s hs) one taken }
