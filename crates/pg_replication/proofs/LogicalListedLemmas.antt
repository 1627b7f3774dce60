-- A list of what a message has, and then of what a caller gave, is walked and written item by item.
use Rattle.std.specs.Prelude.{◌≡◌, ℕ, ◌+◌, ◌^◌, ◌<◌, ◌||◌, Bool, true, false, List, [], ◌∷◌, ◌++◌, map, length, drop, All, Option, is_some}
use Rattle.std.proofs.Common.{refl, sym, ap, ◌∙◌, arith, append_assoc, length-append}
use Rattle.std.specs.List.{flat_map, list_any}
use Rattle.std.proofs.lemmas.List.{append-nil, length-map}
use Rattle.std.proofs.lemmas.List.Elements.{All-cons}
use Rattle.pg_base.specs.Part.{saturated}
use Rattle.pg_base.specs.declared.error.ProtocolFault.{ProtocolFault}
use Rattle.pg_format.specs.Format.{Format, Total}
use Rattle.pg_format.specs.Format.Lists.{times}
use Rattle.pg_format.specs.Format.Parts.{be_u8, be_u32}
use Rattle.pg_format.specs.Format.Places.{IsReadAt}
use Rattle.pg_format.specs.Listed.{values_in}
use Rattle.pg_format.specs.Logical.{truncated}
use Rattle.pg_server.specs.Backend.OutboundItem.{nul_fault}
use Rattle.pg_server.proofs.BackendOutboundItemLemmas.{neither_is}
use Rattle.pg_replication.specs.Logical.Listed.{listed}

-- ---- values of a message, and items of a caller after them

module _ {I A : Type 0} {g : Format A} (total : Total g) (shown : I → A) where
  pub listed_len : (left : ℕ) (bytes : List ℕ) (given : List I) → length (values_in total left bytes) ≡ left → length (listed total shown left bytes given) ≡ left + length given
  listed_len left bytes given whole = omega (arith, length-append (values_in total left bytes) (map shown given), length-map given shown, whole)

  -- where none of a message is left, a caller's first and others
  pub given_first : (left : ℕ) (bytes : List ℕ) (item : I) (given more : List I) → left ≡ 0 → given ≡ item ∷ more → listed total shown left bytes given ≡ shown item ∷ map shown more
  given_first left bytes item given more e f = rw (e, f) refl

  pub given_none : (left : ℕ) (bytes : List ℕ) (given : List I) → left ≡ 0 → given ≡ [] → listed total shown left bytes given ≡ []
  given_none left bytes given e f = rw (e, f) refl

  -- a message's first and others
  pub listed_first : (left n : ℕ) (bytes x : List ℕ) (given : List I) (a : A) → values_in total left bytes ≡ a ∷ values_in total n x → listed total shown left bytes given ≡ a ∷ listed total shown n x given
  listed_first left n bytes x given a e = ap (λ (l : List A). l ++ map shown given) e

  pub listed_alone : (left : ℕ) (bytes : List ℕ) → listed total shown left bytes [] ≡ values_in total left bytes
  listed_alone left bytes = append-nil (values_in total left bytes)

-- ---- items that are written

module _ {N : Type 0} (spell : N → List ℕ) (one : N) (all rest : List N) (is : all ≡ one ∷ rest) where
  -- the length of the first and of the others
  pub first_length : length (flat_map spell all) ≡ length (spell one) + length (flat_map spell rest)
  first_length = rw is (length-append (spell one) (flat_map spell rest))

  pub length_step : (len next whole : ℕ) → saturated (len + length (flat_map spell all)) ≡ whole → next ≡ saturated (len + saturated (length (spell one))) → saturated (next + length (flat_map spell rest)) ≡ whole
  length_step len next whole same more = omega (arith, first_length, same, more)

  pub written_step : (mid new whole : List ℕ) → mid ++ flat_map spell all ≡ whole → new ≡ mid ++ spell one → new ++ flat_map spell rest ≡ whole
  written_step mid new whole same more =
      ap (λ (l : List ℕ). l ++ flat_map spell rest) more ∙ append_assoc mid (spell one) (flat_map spell rest) ∙ ap (λ (l : List N). mid ++ flat_map spell l) (sym is) ∙ same

module _ {N : Type 0} (test : N → Bool) (one : N) (all rest : List N) (is : all ≡ one ∷ rest) where
  any_step : list_any test all ≡ (test one || list_any test rest)
  any_step = rw is refl

  -- none passes: neither does the first, nor one of the others
  pub none_step : list_any test all ≡ false → (test one ≡ false) × (list_any test rest ≡ false)
  none_step e = neither_is (test one) (list_any test rest) (sym any_step ∙ e)

  -- where the first doesn't pass, the others decide
  pub passed_over : test one ≡ false → list_any test rest ≡ list_any test all
  passed_over e = sym (any_step ∙ ap (λ b. b || list_any test rest) e)

  pub passes : test one ≡ true → list_any test all ≡ true
  passes e = any_step ∙ ap (λ b. b || list_any test rest) e

-- what has no fault isn't broken
pub unbroken : (holds : Bool) (fault : Option ProtocolFault) → fault ≡ nul_fault holds → is_some fault ≡ false → holds ≡ false
unbroken true fault is none = absurd (let clash : true ≡ false = ap is_some (sym is) ∙ none in cc)
unbroken false fault is none = refl

-- all are so where the first is and the others are
pub all_step : {N : Type 0} (P : N → Type 0) (one : N) (all rest : List N) → all ≡ one ∷ rest → P one → All P rest → All P all
all_step P one all rest is first others = rw is (All-cons P one rest first others)

-- nothing is left
pub length_end : {N : Type 0} (spell : N → List ℕ) (all : List N) (len whole : ℕ) → all ≡ [] → saturated (len + length (flat_map spell all)) ≡ whole → len < 2 ^ 64 → len ≡ whole
length_end {N = N} spell all len whole none same small = omega (arith, ap (λ (l : List N). length (flat_map spell l)) none, same, small)

pub written_end : {N : Type 0} (spell : N → List ℕ) (all : List N) (mid whole : List ℕ) → all ≡ [] → mid ++ flat_map spell all ≡ whole → mid ≡ whole
written_end {N = N} spell all mid whole none same = sym (append-nil mid) ∙ ap (λ (l : List N). mid ++ flat_map spell l) (sym none) ∙ same

-- the options and the tables of a Truncate
pub truncated_stand : (body : List ℕ) (at n options end : ℕ) (ids : List ℕ) → be_u32.Reads (drop at body) n (drop (at + 4) body) → be_u8.Reads (drop (at + 4) body) options (drop (at + 4 + 1) body)
    → IsReadAt (times n be_u32) body (at + 5) ids end → IsReadAt truncated body at (options, ids) end
truncated_stand body at n options end ids count p q =
    let place : at + 4 + 1 ≡ at + 5 = omega arith in
    let after : be_u8.Reads (drop (at + 4) body) options (drop (at + 5) body) = rw place at p in
    record { within = q.within; reads = ((n, (options, ids)), record { mid = drop (at + 4) body; first = count; second = record { mid = drop (at + 5) body; first = after; second = q.reads } }, refl) }
