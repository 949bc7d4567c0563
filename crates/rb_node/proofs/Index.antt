-- The index of a history, as it grows.
use Rattle.std.proofs.Common.{◌≡◌, ℕ, suc, ◌+◌, Bool, true, false, cond, List, [], ◌∷◌, ◌++◌, length, refl, sym, ap, ◌∙◌, arith}
use Rattle.std.proofs.Common.{◌-◌, append_assoc, append-nil, drop, length-drop, take, take_all}
use Rattle.std.proofs.lemmas.List.{drop_at, length-map, map-append}
use Rattle.rb_money.specs.Settings.{Settings}
use Rattle.rb_site.specs.declared.entry.Entry.{Entry}
use Rattle.rb_site.specs.declared.event.Event.{Event}
use Rattle.rb_site.specs.declared.message.Message.{Message}
use Rattle.rb_site.specs.Events.{ModelSite, after_event, after_events, first_site, is_full, outcome_of, reply_to, sent_at, sent_by}
use Rattle.rb_site.specs.Histories.{events_of}
use Rattle.rb_site.specs.Seen.{SeenSite, entry, next_site, state_of}
use Rattle.rb_site.specs.Unchanging.{changes_site}
use Rattle.rb_site.proofs.Public.Seen.{state-next}
use Rattle.rb_site.proofs.Public.Unchanging.{sent_at_nothing}
use Rattle.rb_node.specs.Index.{index_from, index_of, noted_of}
use Rattle.rb_node.specs.declared.sent_entry.SentEntry.{SentEntry}
use Rattle.rb_node.proofs.NextSite.{next-free, next-full}

-- an event more
more_noted : (s : Settings) (t : ModelSite) (before : ℕ) (es : List Event) (e : Event) →
    index_from s t before (es ++ e ∷ []) ≡ index_from s t before es
    ++ noted_of (before + length es) (length (after_events s t es).ops) (length (after_event s (after_events s t es) e).ops)
    (sent_at s (after_events s t es) e)
more_noted s t before [] e =
    append-nil (noted_of before (length t.ops) (length (after_event s t e).ops) (sent_at s t e))
    ∙ ap (λ n. noted_of n (length t.ops) (length (after_event s t e).ops) (sent_at s t e)) (let q : before ≡ before + 0 = omega arith in q)
more_noted s t before (x ∷ es) e =
    let first = noted_of before (length t.ops) (length (after_event s t x).ops) (sent_at s t x) in
    let u = after_events s (after_event s t x) es in
    let last = λ (n : ℕ). noted_of n (length u.ops) (length (after_event s u e).ops) (sent_at s u e) in
    ap (λ l. first ++ l) (more_noted s (after_event s t x) (suc before) es e)
    ∙ sym (append_assoc first (index_from s (after_event s t x) (suc before) es) (last (suc before + length es)))
    ∙ ap (λ n. (first ++ index_from s (after_event s t x) (suc before) es) ++ last n)
    (let q : suc before + length es ≡ before + suc (length es) = omega arith in q)

-- the index after an event: the note of its entry is after those before
pub index_next : (x : SeenSite) (e : Event) → index_of (next_site x e) ≡ index_of x
    ++ noted_of (length x.entries) (length (state_of x).ops) (length (state_of (next_site x e)).ops) (sent_at x.settings (state_of x) e)
index_next x e = by (is_full x.settings (state_of x)) refl
  where
    s : Settings
    s = x.settings

    t : ModelSite
    t = state_of x

    noted : ℕ → ℕ → List Message → List SentEntry
    noted n end ms = noted_of n (length t.ops) end ms

    by : (b : Bool) → is_full s t ≡ b → index_of (next_site x e) ≡ index_of x
        ++ noted (length x.entries) (length (state_of (next_site x e)).ops) (sent_at s t e)
    by true q =
        let none : sent_at s t e ≡ [] = ap (λ b. cond b [] (sent_by (outcome_of s t e))) q in
        ap index_of (next-full x e q) ∙ sym (append-nil (index_of x))
        ∙ ap (λ ms. index_of x ++ noted (length x.entries) (length (state_of (next_site x e)).ops) ms) (sym none)
    by false q =
        ap index_of (next-free x e q)
        ∙ ap (index_from s (first_site x.me) 0) (map-append (λ (y : Entry). y.event) x.entries (entry e (reply_to s t e) ∷ []))
        ∙ more_noted s (first_site x.me) 0 (events_of x.entries) e
        ∙ ap (λ n. index_of x ++ noted n (length (after_event s t e).ops) (sent_at s t e))
        (let q : 0 + length (events_of x.entries) ≡ length (events_of x.entries) = omega arith in q
        ∙ length-map x.entries (λ (y : Entry). y.event))
        ∙ ap (λ (u : ModelSite). index_of x ++ noted (length x.entries) (length u.ops) (sent_at s t e)) (sym (state-next x e))

-- messages that were put after others
pub put_behind : (old all posted : List Message) (n : ℕ) → all ≡ old ++ posted → n ≡ length old
    → take (length all - n) (drop n all) ≡ posted
put_behind old all posted n is at =
    take_all (length all - n) (drop n all) (let q : length (drop n all) ≡ length all - n = length-drop n all in omega arith)
    ∙ ap (drop n) is ∙ drop_at old posted n (sym at)

-- the index is that of the site after the event, once its entry is noted
pub index_noted : (x new : SeenSite) (e : Event) (index after : List SentEntry) (before first end : ℕ) (posted : List Message)
    → index ≡ index_of x → new ≡ next_site x e → before ≡ length x.entries → first ≡ length (state_of x).ops
    → end ≡ length (state_of new).ops → posted ≡ sent_at x.settings (state_of x) e → after ≡ index ++ noted_of before first end posted
    → after ≡ index_of new
index_noted x new e index after before first end posted is same number low high sent more =
    rw (more, is, number, low, high, sent, same) (sym (index_next x e))

-- an event that changes nothing sends nothing, so it has no note
pub index_unchanging : (x : SeenSite) (e : Event) → changes_site x.settings (state_of x) e ≡ false → index_of (next_site x e) ≡ index_of x
index_unchanging x e h = index_next x e ∙ rw (sent_at_nothing x.settings (state_of x) e h, append-nil)
