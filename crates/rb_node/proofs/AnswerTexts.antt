-- The text of an answer to an event, from its parts.
use Rattle.std.proofs.Common.{◌≡◌, inl, inr, ℕ, List, decimal, [], ◌∷◌, ◌++◌, codes, false, map, sym, ap, ◌∙◌, append_assoc}
use Rattle.json.specs.Print.{escape_byte, quoted}
use Rattle.serde_json.specs.View.{items_of}
use Rattle.serde_json.specs.Written.{compact_text, items_text}
use Rattle.rb_money.specs.Settings.{Settings}
use Rattle.rb_site.specs.declared.message.Message.{Message}
use Rattle.rb_site.specs.declared.reply.Reply.{Reply}
use Rattle.rb_history.proofs.Public.IdText.{id_escape}
use Rattle.rb_history.specs.Ids.{IsIdOrNone, between_if_any}
use Rattle.rb_history.specs.Replies.{reply_json}
use Rattle.rb_node.specs.Answers.{again_json, asked_answer_json, line_of, messages_json, refused_json}
use Rattle.rb_node.specs.Asked.{Known}

-- after a text the id, if it has one, and the key of the reply
abbrev pub head_text : List ℕ → List ℕ → List ℕ
head_text front id = front ++ (between_if_any (codes "\"id\":\"") id (codes "\",") ++ codes "\"reply\":")

-- the reply, the messages, and the bracket of what follows
abbrev pub between : List ℕ → List ℕ → List ℕ
between reply sends = reply ++ (codes ",\"sends\":" ++ (sends ++ codes ",\"then\":["))

abbrev pub rest_of_front : Settings → List ℕ → Reply → List Message → List ℕ
rest_of_front s bank reply sent = between (compact_text (reply_json reply)) (compact_text (messages_json s bank sent))

-- the line of these, as an object
abbrev pub object_line : List ℕ → List ℕ → List ℕ → List ℕ → List ℕ → List ℕ
object_line front [] reply sends later =
    (front ++ (codes "\"reply\":" ++ (reply ++ (codes ",\"sends\":" ++ (sends ++ (codes ",\"then\":" ++ ((codes "[" ++ later)
    ++ codes "}"))))))) ++ 10 ∷ []
object_line front (b ∷ bs) reply sends later =
    (front ++ (codes "\"id\":" ++ (quoted (b ∷ bs) ++ (codes ",\"reply\":" ++ (reply ++ (codes ",\"sends\":" ++ (sends
    ++ (codes ",\"then\":" ++ ((codes "[" ++ later) ++ codes "}"))))))))) ++ 10 ∷ []

-- the parts, one after another, are that line
pub parts : (front reply sends later : List ℕ) → (head_text front [] ++ between reply sends) ++ (later ++ codes "}\n")
    ≡ object_line front [] reply sends later
parts front reply sends later = simp append_assoc

parts_with : (front id reply sends later : List ℕ)
    → ((front ++ ((codes "\"id\":\"" ++ (id ++ codes "\",")) ++ codes "\"reply\":")) ++ between reply sends) ++ (later ++ codes "}\n")
    ≡ (front ++ (codes "\"id\":" ++ ((codes "\"" ++ (id ++ codes "\"")) ++ (codes ",\"reply\":" ++ (reply ++ (codes ",\"sends\":" ++ (sends
    ++ (codes ",\"then\":" ++ ((codes "[" ++ later) ++ codes "}"))))))))) ++ 10 ∷ []
parts_with front id reply sends later = simp append_assoc

whole : (front id reply sends later : List ℕ) → IsIdOrNone id
    → (head_text front id ++ between reply sends) ++ (later ++ codes "}\n") ≡ object_line front id reply sends later
whole front [] reply sends later is = parts front reply sends later
whole front (b ∷ bs) reply sends later (inl none) = absurd (cc)
whole front (b ∷ bs) reply sends later (inr is) = parts_with front (b ∷ bs) reply sends later
    ∙ ap (λ q. (front ++ (codes "\"id\":" ++ (q ++ (codes ",\"reply\":" ++ (reply ++ (codes ",\"sends\":" ++ (sends
    ++ (codes ",\"then\":" ++ ((codes "[" ++ later) ++ codes "}"))))))))) ++ 10 ∷ [])
    (sym (ap (λ l. 34 ∷ (l ++ 34 ∷ [])) (id_escape (b ∷ bs) is)))

-- the line of an answer to an event
pub answer_line : (s : Settings) (bank id : List ℕ) (reply : Reply) (sent : List Message) (later : List Reply) → IsIdOrNone id
    → (head_text (codes "{") id ++ rest_of_front s bank reply sent) ++ (items_text false (items_of (map reply_json later)) ++ codes "}\n")
    ≡ line_of (asked_answer_json s bank id reply sent later)
unfolding escape_byte
answer_line s bank [] reply sent later is = whole (codes "{") [] (compact_text (reply_json reply))
    (compact_text (messages_json s bank sent)) (items_text false (items_of (map reply_json later))) is
answer_line s bank (b ∷ bs) reply sent later is = whole (codes "{") (b ∷ bs) (compact_text (reply_json reply))
    (compact_text (messages_json s bank sent)) (items_text false (items_of (map reply_json later))) is

-- of one to a request that was made before
pub again_line : (s : Settings) (bank id : List ℕ) (k : Known) → IsIdOrNone id
    → (head_text (codes "{\"again\":true,") id ++ rest_of_front s bank k.reply k.sent) ++ codes "]}\n" ≡ line_of (again_json s bank id k)
unfolding escape_byte
again_line s bank [] k is = whole (codes "{\"again\":true,") [] (compact_text (reply_json k.reply))
    (compact_text (messages_json s bank k.sent)) (codes "]") is
again_line s bank (b ∷ bs) k is = whole (codes "{\"again\":true,") (b ∷ bs) (compact_text (reply_json k.reply))
    (compact_text (messages_json s bank k.sent)) (codes "]") is

-- of one by a number alone, in braces after a key: the end of it
pub alone_parts : (head key n : List ℕ) → head ++ (key ++ (n ++ codes "},\"sends\":[],\"then\":[]}\n"))
    ≡ (head ++ between (key ++ (n ++ codes "}")) (codes "[]")) ++ (codes "]" ++ codes "}\n")
alone_parts head key n = simp append_assoc

-- of a refusal by a number
pub refusal_line : (id : List ℕ) (n : ℕ) → IsIdOrNone id
    → head_text (codes "{") id ++ (codes "{\"refused\":" ++ (decimal n ++ codes "},\"sends\":[],\"then\":[]}\n"))
    ≡ line_of (refused_json id n)
unfolding escape_byte
refusal_line [] n is = alone_parts (head_text (codes "{") []) (codes "{\"refused\":") (decimal n)
    ∙ whole (codes "{") [] (codes "{\"refused\":" ++ (decimal n ++ codes "}")) (codes "[]") (codes "]") is
refusal_line (b ∷ bs) n is = alone_parts (head_text (codes "{") (b ∷ bs)) (codes "{\"refused\":") (decimal n)
    ∙ whole (codes "{") (b ∷ bs) (codes "{\"refused\":" ++ (decimal n ++ codes "}")) (codes "[]") (codes "]") is
