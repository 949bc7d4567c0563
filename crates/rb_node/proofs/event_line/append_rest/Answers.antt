use Rattle.std.proofs.Common.{◌≡◌, ◌++◌, List, ℕ, [], ◌∷◌, codes, length, append_assoc, sym, refl, arith, subst}
use Rattle.std.proofs.lemmas.Bool.{eqb-true}
use Rattle.std.specs.Prelude.{true, false, map, suc, ◌==◌}
use Rattle.rb_money.specs.Settings.{Settings}
use Rattle.rb_site.specs.declared.message.Message.{Message}
use Rattle.json.specs.Print.{escape_byte}
use Rattle.serde_json.specs.View.{items_of}
use Rattle.serde_json.specs.Written.{compact_text, items_text}
use Rattle.rb_history.specs.Adds.{Adds}
use Rattle.rb_history.specs.Banks.{sent_json}
use Rattle.rb_history.proofs.Public.Appended.{both, failed, then}
use Rattle.rb_node.specs.Answers.{messages_json}
use Rattle.rb_node.proofs.event_line.append_rest.Goals as goal

-- the parts of the text, one after another
parts : (sends : List ℕ) → (codes ",\"sends\":[" ++ sends) ++ codes ",\"then\":["
    ≡ codes ",\"sends\":" ++ ((codes "[" ++ sends) ++ codes ",\"then\":[")
parts sends = simp append_assoc

-- the list of no messages, between its keys
none_sent : (s : Settings) (bank : List ℕ) (sent : List Message) → true ≡ (length sent == 0)
    → codes ",\"sends\":[],\"then\":[" ≡ codes ",\"sends\":" ++ (compact_text (messages_json s bank sent) ++ codes ",\"then\":[")
unfolding escape_byte
none_sent s bank [] e = refl
none_sent s bank (m ∷ ms) e = let some : suc (length ms) ≡ 0 = eqb-true (length (m ∷ ms)) 0 (sym e) in absurd (omega arith)

pub returns-then-is_empty : goal.returns-then-is_empty
returns-then-is_empty c = subst (Adds c.append.result c.args.out.now.items c.append.new.out.items)
    (none_sent c.args.config.now c.args.bank.now c.args.sent.now c.if-is_empty.ensures) c.append.ensures

pub returns-in_err-append_messages : goal.returns-in_err-append_messages
returns-in_err-append_messages c = failed c.from_residual-in_err-append_messages.result c.args.out.now.items c.append-2.new.out.items
    c.append_messages.new.out.items _ _ c.from_residual-in_err-append_messages.ensures.0 c.in_ok-append.ensures
    c.in_err-append_messages.ensures

pub returns : goal.returns
unfolding escape_byte
returns c =
    let old = c.args.out.now.items in
    let sends = items_text false (items_of (map (sent_json c.args.config.now c.args.bank.now) c.args.sent.now)) in
    let two = both old c.append-2.new.out.items c.append_messages.new.out.items (codes ",\"sends\":[") sends c.in_ok-append.ensures
    c.in_ok-append_messages.ensures in
    then c.append-3.result old c.append_messages.new.out.items c.append-3.new.out.items (codes ",\"sends\":[" ++ sends)
    (codes ",\"then\":[") _ two c.append-3.ensures (parts sends)
