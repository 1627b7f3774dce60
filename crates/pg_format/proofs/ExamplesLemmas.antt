-- What the worked examples need of their texts.
use Rattle.std.specs.Prelude.{◌≡◌, ℕ, zero, suc, Bool, true, false, List, [], ◌∷◌, Option, Some, None, if◌then◌else◌, IsUtf8}
use Rattle.std.specs.Option.{option_or}
use Rattle.std.proofs.Common.{refl, ap, arith}
use Rattle.std.proofs.lemmas.Str.{is_utf8-from_IsUtf8}
use Rattle.pg_base.specs.declared.error.ProtocolFault.{ProtocolFault}
use Rattle.pg_base.specs.declared.error.ProtocolFault.TheVariants.{NoticeNotUtf8, NotUtf8}
use Rattle.pg_base.specs.Reading.{HoldsNo}
use Rattle.pg_format.specs.Notices.{text_fault}
use Rattle.pg_format.specs.Sasl.{utf8_fault}

abbrev pub has_no_nul : List ℕ → Bool
has_no_nul [] = true
has_no_nul (zero ∷ bytes) = false
has_no_nul (suc byte ∷ bytes) = has_no_nul bytes

pub clean : (text : List ℕ) → has_no_nul text ≡ true → HoldsNo 0 text
clean [] h = tt
clean (zero ∷ bytes) h = absurd (cc h)
clean (suc byte ∷ bytes) h = ((λ e. omega (arith, e)), clean bytes h)

pub field_clean : (text : List ℕ) → IsUtf8 text → text_fault text ≡ None
field_clean text is = ap (λ (b : Bool). if b then None else Some NoticeNotUtf8) (is_utf8-from_IsUtf8 text is)

pub item_clean : (text : List ℕ) → IsUtf8 text → utf8_fault text ≡ None
item_clean text is = ap (λ (b : Bool). if b then None else Some NotUtf8) (is_utf8-from_IsUtf8 text is)

pub neither : (a b : Option ProtocolFault) → a ≡ None → b ≡ None → option_or a b ≡ None
neither None b p q = q
neither (Some fault) b p q = absurd (cc p)

-- the faults of three fields, of which the first is also looked up in a list
pub three_clean : (a b c : Option ProtocolFault) → a ≡ None → b ≡ None → c ≡ None → option_or (option_or a None) (option_or b (option_or c None)) ≡ None
three_clean a b c p q r = neither (option_or a None) (option_or b (option_or c None)) (neither a None p refl) (neither b (option_or c None) q (neither c None r refl))

-- the faults of one field, where only the second of its tests has one
pub second_fault : (a : Option ProtocolFault) (fault : ProtocolFault) → a ≡ None → option_or (option_or a (Some fault)) None ≡ Some fault
second_fault None fault p = refl
second_fault (Some other) fault p = absurd (cc p)
