-- A script's recorder, and the histories that are written at its end.
use Rattle.rb_runs.proofs.Words.{◌≡◌, ◌+◌, ℕ, false, List, [], ◌∷◌, map, Option, Some, Result, Ok, Err, refl, sym, ap, ap₂, ◌∙◌, subst}
use Rattle.rb_runs.proofs.Words.{append-nil, inl, IfSome, Appends, Appends-trans, Settings, Entry, SiteReport, ModelSite, history_of}
use Rattle.rb_runs.proofs.Words.{AreReports, WorldEvent, SeenWorld, next_world, opened, config_on, command_on, Sends, is_blank, is_long}
use Rattle.rb_runs.proofs.Words.{AppendsFront, ScriptFault, Write, OutOfMemory, BeginsHistories, HistoriesEndAs, recording_by}
use Rattle.rb_runs.proofs.Words.{recording_from, recording_in, recording_of, commands_from, TakesCommand, StopsUnwritten, text_of}
use Rattle.rb_runs.proofs.Words.{HasInput, IfSome_then}
use Rattle.rb_site.specs.declared.reply.Reply.{Reply}
use Rattle.rb_runs.specs.declared.recorded.unwritten.Unwritten.{Unwritten}
use Rattle.rb_runs.specs.Writing.{Writes}

-- ---- a line

opens_world : (s : Settings) (n : ℕ) (l : List ℕ) (ls : List (List ℕ)) → is_long l ≡ false → is_blank l ≡ false → config_on l ≡ Some s
    → recording_from n (l ∷ ls) ≡ recording_by (opened s) (commands_from (opened s).settings (n + 1) ls)
opens_world s n l ls short some is = rw (short, some, is) refl

-- the configuration's line opens its world
pub recorder_opens : (w : SeenWorld) (s : Settings) (l : List ℕ) → is_long l ≡ false → is_blank l ≡ false → config_on l ≡ Some s
    → w ≡ opened s → (n : ℕ) (ls : List (List ℕ)) → recording_from n (l ∷ ls) ≡ recording_by w (commands_from w.settings (n + 1) ls)
recorder_opens w s l short some is world n ls =
    opens_world s n l ls short some is ∙ ap (λ v. recording_by v (commands_from v.settings (n + 1) ls)) (sym world)

takes_command : (w : SeenWorld) (e : WorldEvent) (n : ℕ) (l : List ℕ) (ls : List (List ℕ)) → is_long l ≡ false → is_blank l ≡ false
    → command_on w.settings l ≡ Some e → recording_by w (commands_from w.settings n (l ∷ ls))
    ≡ recording_by (next_world w e) (commands_from (next_world w e).settings (n + 1) ls)
takes_command w e n l ls short some is = rw (short, some, is) refl

-- a command's line takes its world on
pub recorder_takes : (w v : SeenWorld) (reply : Reply) (l : List ℕ) → is_long l ≡ false → is_blank l ≡ false
    → TakesCommand (command_on w.settings l) w v reply → (n : ℕ) (ls : List (List ℕ))
    → recording_by w (commands_from w.settings n (l ∷ ls)) ≡ recording_by v (commands_from v.settings (n + 1) ls)
recorder_takes w v reply l short some took n ls =
    takes_command w took.command n l ls short some took.is_command
    ∙ ap (λ x. recording_by x (commands_from x.settings (n + 1) ls)) (sym took.world)

-- ---- what was written

-- a script that stopped before anything was written
pub stopped_script : (a b : Option (List ℕ)) (f : ScriptFault) → IfSome a (λ input. StopsUnwritten recording_of f input b [])
    → IfSome a (λ input. HistoriesEndAs (Err f) input b [])
stopped_script a b f h = IfSome_then a h (λ input. by f input b)
  where
    by : (f : ScriptFault) (input : List ℕ) (left : Option (List ℕ)) → StopsUnwritten recording_of f input left []
        → HistoriesEndAs (Err f) input left []
    by Write input left h = absurd h
    by OutOfMemory input left h = inl refl
    by f input left h = h

-- all lines of the histories went out
pub all_written : (w0 v v' a b : Option (List ℕ)) (w : SeenWorld) (u : Unit {0}) → Appends w0 v []
    → Sends v v' (text_of w.settings (recording_in w).histories) [] → IfSome a (λ input. HasInput recording_of (recording_in w) input b)
    → (text : List ℕ) × Appends w0 v' text × IfSome a (λ input. HistoriesEndAs (Ok u) input b text)
all_written w0 v v' a b w u before sent has = (
  sent.0,
  Appends-trans w0 v v' [] sent.0 before sent.1,
  IfSome_then a has (λ input h. (recording_in w, h.0, sym (sent.2 ∙ append-nil sent.0), h.1)),
)

-- a prefix of them went out
pub front_written : (w0 v v' a b : Option (List ℕ)) (w : SeenWorld) → Appends w0 v []
    → AppendsFront v v' (text_of w.settings (recording_in w).histories) → IfSome a (λ input. HasInput recording_of (recording_in w) input b)
    → (text : List ℕ) × Appends w0 v' text × IfSome a (λ input. BeginsHistories input text)
front_written w0 v v' a b w before front has = (
  front.0,
  Appends-trans w0 v v' [] front.0 before front.2,
  IfSome_then a has (λ input h. (recording_in w, h.0, front.1)),
)

-- the histories that sites report are theirs
pub reported_histories : (s : Settings) (ts : List ModelSite) (rs : List SiteReport) → AreReports s ts rs
    → map (λ (r : SiteReport). r.history.items) rs ≡ map (history_of s) ts
reported_histories s [] [] h = refl
reported_histories s [] (r ∷ rs) h = absurd h
reported_histories s (t ∷ ts) [] h = absurd h
reported_histories s (t ∷ ts) (r ∷ rs) h = ap₂ (λ x xs. x ∷ xs) h.0.history (reported_histories s ts rs h.1)

-- what was written for the reports of a world's sites
pub world_written : (r : Result Unit Unwritten) (v v' : Option (List ℕ)) (s t : Settings) (ts : List ModelSite) (rs : List SiteReport)
    → s ≡ t → AreReports t ts rs → Writes r v v' (text_of s (map (λ (q : SiteReport). q.history.items) rs)) []
    → Writes r v v' (text_of t (map (history_of t) ts)) []
world_written r v v' s t ts rs same are written =
    let P : List ℕ → Type 0 = λ text. Writes r v v' text [] in
    let hs : List (List Entry) = map (λ (q : SiteReport). q.history.items) rs in
    subst P (ap (λ (z : Settings). text_of z hs) same ∙ ap (text_of t) (reported_histories t ts rs are)) written
