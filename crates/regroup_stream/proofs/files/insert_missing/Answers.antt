use Rattle.std.proofs.Common.{◌≡◌, List, ℕ, false, None, Some, String, BTreeMap, Global, string_bytes, string_cmp, refl, ap, ◌∙◌}
use Rattle.std.specs.Prelude.{Option, is_some, option_map}
use Rattle.std.specs.BTreeMap.{insert_entry}
use Rattle.serde_json.specs.Data.{Data, Members, array, boolean, null, number, object, put, string}
use Rattle.serde_json.specs.Find.{as_object, get}
use Rattle.serde_json.specs.View.{members_view, view}
use Rattle.serde_json.specs.declared.value.Value.{Object, Value}
use Rattle.serde_json.proofs.Views.{Entry, members_view-insert_entry, view-Object}
use Rattle.regroup_stream.specs.Files.{with_text_at}
use Rattle.regroup_stream.proofs.files.insert_missing.Goals as goal

-- what is not found has no value
absent : {A : Type 0} (f : A → Data) (found : Option A) (value : Option Data) → option_map f found ≡ value → is_some found ≡ false
    → is_some value ≡ false
absent f None value same none = rw (← same) refl
absent f (Some x) value same none = absurd (cc)

-- an object that lacks the key has the text there then
lacking : (key text : List ℕ) (value : Data) (ms : Members) → Some ms ≡ as_object value → is_some (get key value) ≡ false →
    object (put key (string text) ms) ≡ with_text_at key text value
lacking key text null ms is lacks = absurd (cc)
lacking key text (boolean b) ms is lacks = absurd (cc)
lacking key text (number n) ms is lacks = absurd (cc)
lacking key text (string s) ms is lacks = absurd (cc)
lacking key text (array items) ms is lacks = absurd (cc)
lacking key text (object others) ms is lacks = rw lacks (cc)

-- an object with a member more
inserted : (m : BTreeMap (String Global) Value) (es : List Entry) (k : String Global) (v : Value) (key text : List ℕ)
    → m.entries ≡ insert_entry string_cmp es k v →
    string_bytes k ≡ key → view v ≡ string text → view (Object m) ≡ object (put key (string text) (members_view es))
inserted m es k v key text entries is_key is_text =
    view-Object m ∙ ap (λ l. object (members_view l)) entries ∙ ap object (members_view-insert_entry es k v) ∙ rw (is_key, is_text) refl

pub returns-in_ok-insert : goal.returns-in_ok-insert
returns-in_ok-insert c =
    let none : is_some c.get.result ≡ false = cc in
    let lacks : is_some (get c.args.key.now (view c.args.value.now)) ≡ false = absent _ _ _ c.get.ensures none in
    inserted c.insert.new.self c.in-Some.members.now.entries c.in_ok-from_str.field-0 c.in_ok-try_from_str.field-0 c.args.key.now
    c.args.text.now
    c.in_ok-insert.ensures.entries c.in_ok-from_str.ensures.ok c.in_ok-try_from_str.ensures
    ∙ lacking c.args.key.now c.args.text.now (view c.args.value.now) (members_view c.in-Some.members.now.entries) c.in-Some.ensures.value
    lacks
