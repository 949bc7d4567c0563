use Rattle.std.proofs.Common.{◌≡◌, ◌++◌, List, [], ◌∷◌, ℕ, false, codes, length, append_assoc, refl, subst}
use Rattle.std.specs.Prelude.{map, Result, ◌==◌}
use Rattle.json.specs.Print.{escape_byte}
use Rattle.serde_json.specs.View.{items_of}
use Rattle.serde_json.specs.Written.{items_text}
use Rattle.rb_money.specs.Settings.{Settings}
use Rattle.rb_site.specs.declared.message.Message.{Message}
use Rattle.rb_history.specs.Adds.{Adds}
use Rattle.rb_history.proofs.Public.Appended.{both, failed, then}
use Rattle.rb_history.specs.Banks.{sent_json}
use Rattle.rb_node.specs.Answers.{sent_line}
use Rattle.rb_node.proofs.replay.append_sends.Goals as goal

-- the parts of the line, one after another
parts : (sends : List ℕ) → (codes "{\"sends\":[" ++ sends) ++ codes "}\n"
    ≡ (codes "{\"sends\":" ++ ((codes "[" ++ sends) ++ codes "}")) ++ 10 ∷ []
parts sends = simp append_assoc

-- the messages' line, if there are any
whole : {A E : Type 0} (r : Result A E) (s : Settings) (bank : List ℕ) (ms : List Message) (old new : List ℕ) → false ≡ (length ms == 0)
    → Adds r old new ((codes "{\"sends\":[" ++ items_text false (items_of (map (sent_json s bank) ms))) ++ codes "}\n")
    → Adds r old new (sent_line s bank ms)
unfolding escape_byte
whole r s bank [] old new some h = absurd (cc)
whole r s bank (m ∷ ms) old new some h =
    subst (Adds r old new) (parts (items_text false (items_of (map (sent_json s bank) (m ∷ ms))))) h

pub returns-in_err-append_messages : goal.returns-in_err-append_messages
returns-in_err-append_messages c = failed c.from_residual-in_err-append_messages.result c.args.out.now.items c.append.new.out.items
    c.append_messages.new.out.items _ _ c.from_residual-in_err-append_messages.ensures.0 c.in_ok-append.ensures
    c.in_err-append_messages.ensures

pub returns : goal.returns
returns c =
    let old = c.args.out.now.items in
    let s = c.args.config.now in
    let bank = c.args.bank.now in
    let messages = c.args.messages.now in
    let sends = items_text false (items_of (map (sent_json s bank) messages)) in
    let two = both old c.append.new.out.items c.append_messages.new.out.items (codes "{\"sends\":[") sends c.in_ok-append.ensures
    c.in_ok-append_messages.ensures in
    whole c.append-2.result s bank messages old c.append-2.new.out.items c.if-is_empty.ensures
    (then c.append-2.result old c.append_messages.new.out.items c.append-2.new.out.items (codes "{\"sends\":[" ++ sends) (codes "}\n") _ two
    c.append-2.ensures refl)
