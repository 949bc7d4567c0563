-- The lines of a shadow that comes and of an entry, part by part.
use Rattle.rb_history.proofs.Words.{escape_byte, BeginsWithCounts, BeginsWithId, account_behind_quote, behind_quote, blue_json}
use Rattle.rb_history.proofs.Words.{asked_entry_json, event_json, last_members, IsKnown, IsShadow, AskedEntry, IsAsked, IsIdOrNone}
use Rattle.rb_history.proofs.Words.{between_if_any, may_be_asked, word_of, reply_json, Settings, Place, label_of, name_text, Shadow, Entry}
use Rattle.rb_history.proofs.Words.{Receive, ShadowMessage, Reply, compact_text, members_text, List, [], ap, append_assoc, codes, decimal}
use Rattle.rb_history.proofs.Words.{inl, inr, refl, rules, sym, true, ℕ, ◌++◌, ◌<◌, ◌^◌, ◌∙◌, ◌∷◌, ◌≡◌, ◌⊎◌}
use Rattle.rb_history.specs.Receipts.{BeginsWithBack, shadow_front}
use Rattle.rb_history.specs.declared.fast.shadow.Back.{Back}
use Rattle.rb_history.proofs.Public.IdText.{id_quoted}

-- the shadow of its parts
abbrev pub shadow_of : Place → ℕ → List ℕ → Back → Shadow
shadow_of account amount blue b =
    record { name = b.name; home = b.home; deps = record { blue = blue; red = b.red }; account = account; amount = amount; kind = b.kind }

parts_text : (account amount blue red home kind name last rest : List ℕ)
    → (codes "{\"shadow\":{\"account\":\"" ++ (account ++ (codes ",\"amount\":" ++ (amount ++ codes ",\"deps\":[")))) ++
    (blue ++ ((codes "," ++ (red ++ (codes "],\"home\":" ++ (home ++ (codes ",\"kind\":\"" ++
    (kind ++ (codes ",\"name\":\"" ++ (name ++ (last ++ codes "}"))))))))) ++ rest))
    ≡ (codes "{\"shadow\":" ++ ((codes
    "{\"account\":\"" ++ (account ++ (codes
    ",\"amount\":" ++ (amount ++ (codes
    ",\"deps\":" ++ ((codes "[" ++ (blue ++ (codes "," ++ (red ++ codes "]")))) ++ (codes
    ",\"home\":" ++ (home ++ (codes ",\"kind\":\"" ++ (kind ++ (codes ",\"name\":\"" ++ (name ++ last)))))))))))) ++ codes
    "}")) ++ rest
parts_text account amount blue red home kind name last rest = simp append_assoc

-- parts that fit are a shadow that does
pub shadow_fits : (s : Settings) (account : Place) (amount : ℕ) (blue list behind rest : List ℕ) (b : Back) → IsKnown s account
    → amount < 2 ^ 64 → BeginsWithCounts s.version blue list behind → BeginsWithBack s b behind rest
    → IsShadow s (shadow_of account amount blue b)
shadow_fits s account amount blue list behind rest b known fits counts back = search rules

-- the text of its event, read part by part
pub event_written : (s : Settings) (account : Place) (amount : ℕ) (blue text list behind rest : List ℕ) (b : Back)
    → text ≡ shadow_front s account amount ++ list → BeginsWithCounts s.version blue list behind → BeginsWithBack s b behind rest
    → text ≡ compact_text (event_json s (Receive (ShadowMessage (shadow_of account amount blue b)))) ++ rest
unfolding escape_byte
event_written s account amount blue text list behind rest b e counts back =
    e ∙ ap (λ l. shadow_front s account amount ++ l) (counts.written ∙ ap (λ l. compact_text (blue_json s.version blue) ++ l) back.written)
    ∙ parts_text (account_behind_quote s account) (decimal amount) (compact_text (blue_json s.version blue)) (decimal b.red)
    (decimal b.home) (behind_quote (word_of (label_of b.kind))) (behind_quote (name_text b.name))
    (members_text true (last_members s b.kind)) rest

-- the text of an entry after its event
abbrev pub end_text : Reply → ℕ → List ℕ
end_text reply site = codes ",\"reply\":" ++ (compact_text (reply_json reply) ++ (codes ",\"site\":" ++ (decimal site ++ codes "}")))

-- ---- the line of an entry with its id, part by part

-- the id's member, after another and before others; nothing if there is no id
abbrev pub id_text : List ℕ → List ℕ
id_text id = between_if_any (codes ",\"id\":\"") id (codes "\"")

-- the member of an id, before what follows
some_id_text : (id rest : List ℕ)
    → codes ",\"id\":\"" ++ (id ++ (codes "\"" ++ rest)) ≡ (codes ",\"id\":\"" ++ (id ++ codes "\"")) ++ rest
some_id_text id rest = ap (λ l. codes ",\"id\":\"" ++ l) (sym (append_assoc id (codes "\"") rest))

-- an id, or none, that was read begins with its member
pub begins_text : (id text rest : List ℕ) → BeginsWithId id text rest → text ≡ id_text id ++ rest
begins_text [] text rest (inl (none, same)) = same
begins_text [] text rest (inr (is, same)) = absurd (cc)
begins_text (b ∷ bs) text rest (inl (none, same)) = absurd (cc)
begins_text (b ∷ bs) text rest (inr (is, same)) = same ∙ some_id_text (b ∷ bs) rest

-- the line of an entry is its event, its id if there is one, and its end
pub line_parts : (s : Settings) (site : ℕ) (x : AskedEntry) → IsIdOrNone x.id
    → codes "{\"event\":"
    ++ (compact_text (event_json s x.entry.event) ++ (id_text x.id ++ end_text x.entry.reply site))
    ≡ compact_text (asked_entry_json s site x)
unfolding escape_byte
line_parts s site x = at x.id
  where
    event : List ℕ
    event = compact_text (event_json s x.entry.event)

    end : List ℕ
    end = end_text x.entry.reply site

    at : (id : List ℕ) → IsIdOrNone id → codes "{\"event\":" ++ (event ++ (id_text id ++ end))
        ≡ compact_text (asked_entry_json s site (record { id = id; entry = x.entry }))
    at [] none = refl
    at (b ∷ bs) (inl none) = absurd (cc)
    at (b ∷ bs) (inr is) = ap (λ l. codes "{\"event\":" ++ (event ++ l)) (sym (some_id_text (b ∷ bs) end))
        ∙ ap (λ l. codes "{\"event\":" ++ (event ++ (codes ",\"id\":" ++ l))) (sym (id_quoted (b ∷ bs) end is))

-- an id that was read, or none, is one
pub id_or_none : (id text rest : List ℕ) → BeginsWithId id text rest → IsIdOrNone id
id_or_none id text rest (inl (none, same)) = inl none
id_or_none id text rest (inr (is, same)) = inr is

-- an id that was read is one that its entry may have, if a test says so unless there is none
pub is_asked : (id text rest : List ℕ) (x : Entry) → BeginsWithId id text rest → (id ≡ []) ⊎ (may_be_asked x ≡ true)
    → IsAsked (record { id = id; entry = x })
is_asked id text rest x (inl (none, same)) may = inl none
is_asked id text rest x (inr (is, same)) (inl none) = inl none
is_asked id text rest x (inr (is, same)) (inr may) = inr (is, may)

-- a line that was read part by part is the line of its entry
pub line_written : (s : Settings) (site : ℕ) (x : AskedEntry) (line text behind rest : List ℕ)
    → line ≡ codes "{\"event\":" ++ text → text ≡ compact_text (event_json s x.entry.event) ++ behind
    → BeginsWithId x.id behind rest → rest ≡ end_text x.entry.reply site
    → line ≡ compact_text (asked_entry_json s site x)
line_written s site x line text behind rest begun event id ended =
    rw (begun, event, begins_text x.id behind rest id, ended) (line_parts s site x (id_or_none x.id behind rest id))
