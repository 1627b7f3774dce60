-- Values that are read from a body one after the other.
use Rattle.std.specs.Prelude.{◌≡◌, ℕ, zero, suc, ◌+◌, ◌-◌, ◌*◌, ◌<◌, ◌≤◌, List, [], ◌∷◌, ◌++◌, length, drop}
use Rattle.std.proofs.Common.{refl, ◌∙◌, arith, inl, inr, length-append, length-drop}
use Rattle.pg_base.specs.declared.error.ProtocolFault.{ProtocolFault}
use Rattle.pg_base.specs.declared.error.ProtocolFault.TheVariants.{Short}
use Rattle.pg_base.specs.Error.{IsShort}
use Rattle.pg_format.specs.Format.{Format, Means, IsFaultOf}
use Rattle.pg_format.specs.Format.Parts.{Lacks, be_u16}
use Rattle.pg_format.specs.Format.Ends.{loosely}
use Rattle.pg_format.specs.Format.Lists.{AreRead, OneBreaks, times, counted_least}
use Rattle.pg_format.specs.Format.Places.{IsReadAt, BreaksAt}
use Rattle.pg_format.proofs.FormatLaws.Tests.{Takes}

-- fewer bytes follow an offset than are needed there
pub lacks_at : (body : List ℕ) (at needed : ℕ) (fault : ProtocolFault) → at ≤ length body → IsShort body at needed fault → Lacks needed (length body) (drop at body) fault
lacks_at body at needed fault within p =
    let place : at ≡ length body - length (drop at body) = omega (arith, within, length-drop at body) in
    let got : length body - at ≡ length (drop at body) = omega (arith, within, length-drop at body) in
    record { few = omega (arith, p.lacks, length-drop at body); is = p.is ∙ (λ i. Short (place i) needed (got i)) }

-- a value that takes so many bytes at least, and is read up to as many after an offset, stands there
pub stands_at : {A : Type 0} (g : Format A) (width : ℕ) → Takes width g → (body : List ℕ) (at : ℕ) (a : A) → at ≤ length body → g.Reads (drop at body) a (drop (at + width) body) → IsReadAt g body at a (at + width)
stands_at g width takes body at a within p = record {
  within = omega (arith, within, takes.takes (drop at body) (drop (at + width) body) a p, length-drop at body, length-drop (at + width) body);
  reads = p;
}

-- ---- so many items

pub none_at : {A : Type 0} (g : Format A) (body : List ℕ) (at : ℕ) → at ≤ length body → IsReadAt (times 0 g) body at [] at
none_at g body at within = record { within = within; reads = (refl, refl) }

are_read_push : {A : Type 0} (g : Format A) (items : List A) (item : A) (x y z : List ℕ) → AreRead g x items y → g.Reads y item z → AreRead g x (items ++ item ∷ []) z
are_read_push g [] item x y z p q = (z, rw p at q, refl)
are_read_push g (first ∷ items) item x y z p q = (p.0, p.1, are_read_push g items item p.0 y z p.2 q)

pub one_more_at : {A : Type 0} (g : Format A) (body : List ℕ) (n first at end : ℕ) (items : List A) (item : A)
    → IsReadAt (times n g) body first items at → IsReadAt g body at item end → IsReadAt (times (n + 1) g) body first (items ++ item ∷ []) end
one_more_at g body n first at end items item p q = record {
  within = q.within;
  reads = (
    omega (arith, p.reads.0, length-append items (item ∷ [])),
    are_read_push g items item (drop first body) (drop at body) (drop end body) p.reads.1 q.reads,
  );
}

-- items that are read after their count are what the body means
pub counted_at : {A : Type 0} (g : Format A) (least : ℕ) (body : List ℕ) (n end : ℕ) (items : List A)
    → be_u16.Reads body n (drop 2 body) → IsReadAt (times n g) body 2 items end → Means (loosely (counted_least least g)) body items
counted_at g least body n end items counted p = (drop end body, ((n, items), record { mid = drop 2 body; first = counted; second = p.reads }, refl), refl)

pub items_then_fault : {A : Type 0} (g : Format A) (items : List A) (n len : ℕ) (x y : List ℕ) (fault : ProtocolFault) → AreRead g x items y → g.Breaks len y fault → length items < n → OneBreaks g n len x fault
items_then_fault g items zero len x y fault p q fewer = absurd (omega (arith, fewer))
items_then_fault g [] (suc n) len x y fault p q fewer = inl (rw p at q)
items_then_fault g (first ∷ items) (suc n) len x y fault p q fewer =
    inr (record { value = first; mid = p.0; reads = p.1; breaks = items_then_fault g items n len p.0 y fault p.2 q (omega (arith, fewer)) })

-- an item that can't be read after fewer than are counted is the fault of the body
pub broken_at : {A : Type 0} (g : Format A) (least : ℕ) (body : List ℕ) (n k at : ℕ) (items : List A) (fault : ProtocolFault) → be_u16.Reads body n (drop 2 body) → 2 + least * n ≤ length body
    → IsReadAt (times k g) body 2 items at → k < n → BreaksAt g body at fault → IsFaultOf (loosely (counted_least least g)) body fault
broken_at g least body n k at items fault counted holds p fewer breaks =
    inr (record {
      value = n;
      mid = drop 2 body;
      reads = counted;
      breaks = inr (
        omega (arith, holds, length-drop 2 body),
        items_then_fault g items n (length body) (drop 2 body) (drop at body) fault p.reads.1 breaks (omega (arith, p.reads.0, fewer)),
      );
    })
