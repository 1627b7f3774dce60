-- Items are read from a body one by one.
use Rattle.std.proofs.Common.{◌≡◌, ℕ, zero, suc, ◌+◌, ◌*◌, ◌<◌, ◌≤◌, List, [], ◌∷◌, ◌++◌, length, map, drop, refl, ap, ◌∙◌, arith, inr, Result, Ok, Err, append-nil, append_assoc, length-append, length-drop}
use Rattle.std.proofs.lemmas.List.{map_push}
use Rattle.pg_base.specs.declared.error.ProtocolFault.{ProtocolFault}
use Rattle.pg_base.proofs.ReadingLemmas.{one_number}
use Rattle.pg_format.specs.Format.{Format, Lawful, Means, IsFaultOf}
use Rattle.pg_format.specs.Format.Ends.{loosely}
use Rattle.pg_format.specs.Format.Lists.{AreRead, OneBreaks, times, counted_least}
use Rattle.pg_format.specs.Format.Places.{IsReadAt, BreaksAt}
use Rattle.pg_format.proofs.FormatLaws.Places.{none_at, one_more_at, items_then_fault}
use Rattle.pg_format.specs.Items.{Keeps, KeepsOne, AreKept, AllKept, Reading, AreLeft, IsFaultLeft, Begins, Steps, ReadsBody, items_in, HoldsItems}

-- an item that can't be read after fewer than are left is the fault of what is left
pub fault_left : {A : Type 0} (g : Format A) (reading : Reading) (k at : ℕ) (items : List A) (fault : ProtocolFault) → IsReadAt (times k g) reading.body reading.at items at → k < reading.left → BreaksAt g reading.body at fault
    → IsFaultLeft g reading fault
fault_left g reading k at items fault p fewer breaks =
    items_then_fault g items reading.left (length reading.body) (drop reading.at reading.body) (drop at reading.body) fault p.reads.1 breaks (omega (arith, p.reads.0, fewer))

-- a fault after some items that are read
pub fault_after : {A : Type 0} (g : Format A) (items : List A) (k n len : ℕ) (x y : List ℕ) (fault : ProtocolFault) → k ≡ length items + n → AreRead g x items y → OneBreaks g n len y fault → OneBreaks g k len x fault
fault_after g [] k n len x y fault e p q = let all : k ≡ n = omega (arith, e) in rw all (rw p at q)
fault_after g (item ∷ items) zero n len x y fault e p q = absurd (omega (arith, e))
fault_after g (item ∷ items) (suc k) n len x y fault e p q = inr (record { value = item; mid = p.0; reads = p.1; breaks = fault_after g items k n len p.0 y fault (omega (arith, e)) p.2 q })

are_read_append : {A : Type 0} (g : Format A) (items more : List A) (x y z : List ℕ) → AreRead g x items y → AreRead g y more z → AreRead g x (items ++ more) z
are_read_append g [] more x y z p q = rw p at q
are_read_append g (item ∷ items) more x y z p q = (p.0, p.1, are_read_append g items more p.0 y z p.2 q)

-- ---- items that are kept

map-append : {A B : Type 0} (f : A → B) (xs ys : List A) → map f (xs ++ ys) ≡ map f xs ++ map f ys
map-append f [] ys = refl
map-append {B = B} f (x ∷ xs) ys = ap (λ (l : List B). f x ∷ l) (map-append f xs ys)

module _ {I K V : Type 0} (g : Format V) (shown : I → V) (keeps : Keeps K I) (body : List ℕ) where
  pub none_kept : (at : ℕ) (k : K) → at ≤ length body → AreKept g shown keeps body at 0 at k k
  none_kept at k within = record { items = []; read = none_at g body at within; kept = λ first earlier p. rw (append-nil earlier) p }

  pub one_more_kept : (first n at end : ℕ) (old new newer : K) (item : I) → AreKept g shown keeps body first n at old new → IsReadAt g body at (shown item) end
      → KeepsOne g shown keeps at item end new newer → AreKept g shown keeps body first (n + 1) end old newer
  one_more_kept first n at end old new newer item p q keep = record {
    items = p.items ++ item ∷ [];
    read = rw (map_push shown p.items item) (one_more_at g body n first at end (map shown p.items) (shown item) p.read q);
    kept = λ start earlier k. rw (← append_assoc earlier p.items (item ∷ [])) (keep body start (earlier ++ p.items) (p.kept start earlier k) q);
  }

  pub more_kept : (first m at n end all : ℕ) (old new newer : K) → all ≡ m + n → AreKept g shown keeps body first m at old new → AreKept g shown keeps body at n end new newer → AreKept g shown keeps body first all end old newer
  more_kept first m at n end all old new newer e p q = record {
    items = p.items ++ q.items;
    read = record {
      within = q.read.within;
      reads = (
        ap length (map-append shown p.items q.items) ∙ omega (arith, e, length-append (map shown p.items) (map shown q.items), p.read.reads.0, q.read.reads.0),
        rw (map-append shown p.items q.items) (are_read_append g (map shown p.items) (map shown q.items) (drop first body) (drop at body) (drop end body) p.read.reads.1 q.read.reads.1),
      );
    };
    kept = λ start earlier k. rw (← append_assoc earlier p.items q.items) (q.kept start (earlier ++ p.items) (p.kept start earlier k));
  }

  -- some are kept, and then all that were left, or the fault of what was left
  pub then_the_rest : (old : Reading) (n at more : ℕ) (first mid last : K) (result : Result ℕ ProtocolFault) → old.body ≡ body → old.left ≡ n + more → AreKept g shown keeps body old.at n at first mid
      → AllKept g shown keeps (record { body = body; at = at; left = more }) mid last result → AllKept g shown keeps old first last result
  then_the_rest old n at more first mid last (Ok end) e sum p q = rw e (more_kept old.at n at more end old.left first mid last sum p q)
  then_the_rest old n at more first mid last (Err fault) e sum p q =
      let count : old.left ≡ length (map shown p.items) + more = omega (arith, p.read.reads.0, sum) in
      rw e (fault_after g (map shown p.items) old.left more (length body) (drop old.at body) (drop at body) fault count p.read.reads.1 q)

-- ---- the items of a body

-- what begins at the first item of a body
read_there : {A : Type 0} (g : Format A) (body bytes : List ℕ) (at n : ℕ) (items : List A) (end : ℕ) → bytes ≡ body → at ≡ 2 → IsReadAt (times n g) bytes at items end → IsReadAt (times n g) body 2 items end
read_there g body bytes at n items end e f p = rw (e, f) at p

broken_there : {A : Type 0} (g : Format A) (body bytes : List ℕ) (at n : ℕ) (fault : ProtocolFault) → bytes ≡ body → at ≡ 2 → BreaksAt (times n g) bytes at fault → BreaksAt (times n g) body 2 fault
broken_there g body bytes at n fault e f p = rw (e, f) at p

-- all that is left at the beginning is what the body has
pub all_read : {A : Type 0} (g : Format A) (least : ℕ) (body : List ℕ) (reading : Reading) (items : List A) (end : ℕ) → Begins least body reading
    → IsReadAt (times reading.left g) reading.body reading.at items end → IsReadAt (counted_least least g) body 0 items end
all_read g least body reading items end begins p =
    let read = read_there g body reading.body reading.at reading.left items end begins.whole begins.first p in
    record { within = read.within; reads = ((reading.left, items), record { mid = drop 2 body; first = begins.count; second = read.reads }, refl) }

-- a fault of what is left at the beginning is that of the body
pub fault_read : {A : Type 0} (g : Format A) (least : ℕ) (body : List ℕ) (reading : Reading) (fault : ProtocolFault) → Begins least body reading → IsFaultLeft g reading fault → IsFaultOf (counted_least least g) body fault
fault_read g least body reading fault begins p =
    inr (record {
      value = reading.left;
      mid = drop 2 body;
      reads = begins.count;
      breaks = inr (omega (arith, begins.holds, length-drop 2 body), broken_there g body reading.body reading.at reading.left fault begins.whole begins.first p);
    })

-- the same of a body after whose items any bytes may stand
pub all_meant : {A : Type 0} (g : Format A) (least : ℕ) (body : List ℕ) (reading : Reading) (items : List A) (end : ℕ) → Begins least body reading → IsReadAt (times reading.left g) reading.body reading.at items end
    → Means (loosely (counted_least least g)) body items
all_meant g least body reading items end begins p = (drop end body, (all_read g least body reading items end begins p).reads, refl)

-- ---- one step after the other

module _ {A : Type 0} (g : Format A) where
  items_before : (old : Reading) (items others : List A) (new : Reading) → Steps g old items new → AreLeft g new others → AreLeft g old (items ++ others)
  items_before old [] others new p q = rw (← p) q
  items_before old (item ∷ items) others new p q =
      let more = items_before p.0 items others new p.2 q in
      (more.0, (omega (arith, p.1.one_less, more.1.0), (drop p.0.at old.body, p.1.reads.reads, rw (← p.1.body) more.1.1)))

  fault_before : (old : Reading) (items : List A) (new : Reading) (fault : ProtocolFault) → Steps g old items new → IsFaultLeft g new fault → IsFaultLeft g old fault
  fault_before old [] new fault p q = rw (← p) q
  fault_before old (item ∷ items) new fault p q =
      let more : OneBreaks g p.0.left (length old.body) (drop p.0.at old.body) fault = rw (← p.1.body) (fault_before p.0 items new fault p.2 q) in
      rw p.1.one_less (inr (record { value = item; mid = drop p.0.at old.body; reads = p.1.reads.reads; breaks = more }))

items_there : {A : Type 0} (g : Format A) (body bytes : List ℕ) (at : ℕ) (items : List A) (rest : List ℕ) → bytes ≡ body → at ≡ 2 → AreRead g (drop at bytes) items rest → AreRead g (drop 2 body) items rest
items_there g body bytes at items rest e f p = rw (e, f) at p

module _ {A : Type 0} {g : Format A} (lawful : Lawful g) where
  items_after : (old : Reading) (items all : List A) (new : Reading) → Steps g old items new → AreLeft g old all → (others : List A) × (all ≡ items ++ others) × AreLeft g new others
  items_after old [] all new p q = (all, refl, rw p q)
  items_after old (item ∷ items) [] new p q = absurd (omega (arith, p.1.one_less, q.1.0))
  items_after old (item ∷ items) (first ∷ all) new p q =
      let both = lawful.one_value (drop old.at old.body) q.1.1.0 (drop p.0.at old.body) first item q.1.1.1 p.1.reads.reads in
      let left : AreLeft g p.0 all = (q.0, (omega (arith, p.1.one_less, q.1.0), rw p.1.body (rw both.1 at q.1.1.2))) in
      let more = items_after p.0 items all new p.2 left in
      (more.0, ap (λ (x : A). x ∷ all) both.0 ∙ ap (λ (l : List A). item ∷ l) more.1, more.2)

  pub reads_body : (least : ℕ) (body : List ℕ) (old new : Reading) (items : List A) → Begins least body old → Steps g old items new → ReadsBody (loosely (counted_least least g)) g body items new
  reads_body least body old new items begins p = record {
    all = λ q.
        let none : items ++ [] ≡ items = append-nil items in
        let left : AreLeft g old items = rw (← none) (items_before g old items [] new p q) in
        let read = items_there g body old.body old.at items left.0 begins.whole begins.first left.1.1 in
        (left.0, ((old.left, items), record { mid = drop 2 body; first = begins.count; second = (left.1.0, read) }, refl), refl);
    fault = λ fault q.
        let left = broken_there g body old.body old.at old.left fault begins.whole begins.first (fault_before g old items new fault p q) in
        inr (record { value = old.left; mid = drop 2 body; reads = begins.count; breaks = inr (omega (arith, begins.holds, length-drop 2 body), left) });
    front = λ all means.
        let v = means.1 in
        let count = one_number 2 body old.left v.0.0 (drop 2 body) v.1.mid begins.count v.1.first in
        let read : AreRead g (drop 2 body) all means.0 = rw (count.1, v.2) v.1.second.1 in
        let left : AreLeft g old all = (means.0, (omega (arith, ap length v.2, v.1.second.0, count.0), rw (begins.whole, begins.first) read)) in
        items_after old items all new p left;
  }

-- ---- items that are known to be there

pub length-items_in : {A : Type 0} (first : List ℕ → A) (after : List ℕ → List ℕ) (n : ℕ) (bytes : List ℕ) → length (items_in first after n bytes) ≡ n
length-items_in first after zero bytes = refl
length-items_in first after (suc n) bytes = ap suc (length-items_in first after n (after bytes))

module _ {A : Type 0} {g : Format A} (lawful : Lawful g) (first : List ℕ → A) (after : List ℕ → List ℕ)
    (front : (bytes : List ℕ) (a : A) (rest : List ℕ) → g.Reads bytes a rest → (first bytes ≡ a) × (after bytes ≡ rest)) where
  -- what is read is what the bytes hold
  pub items_in-read : (n : ℕ) (bytes : List ℕ) (items : List A) (rest : List ℕ) → length items ≡ n → AreRead g bytes items rest → items_in first after n bytes ≡ items
  items_in-read zero bytes [] rest l p = refl
  items_in-read zero bytes (a ∷ items) rest l p = absurd (omega (arith, l))
  items_in-read (suc n) bytes [] rest l p = absurd (omega (arith, l))
  items_in-read (suc n) bytes (a ∷ items) rest l p =
      let one = front bytes a p.0 p.1 in
      rw (one.0, one.1, items_in-read n p.0 items rest (omega (arith, l)) p.2) refl

  -- the first of the items, and the others
  pub first_and_others : (n : ℕ) (bytes : List ℕ) (a : A) (rest : List ℕ) → HoldsItems g first after (suc n) bytes → g.Reads bytes a rest
      → (items_in first after (suc n) bytes ≡ a ∷ items_in first after n rest) × HoldsItems g first after n rest
  first_and_others n bytes a rest p q =
      let one = front bytes a rest q in
      let mids = lawful.one_value bytes p.1.0 rest (first bytes) a p.1.1 q in
      let others : AreRead g rest (items_in first after n (after bytes)) p.0 = rw mids.1 at p.1.2 in
      (rw (one.0, one.1) refl, (p.0, rw one.1 at others))

  -- where items are left, none is broken
  pub none_is_broken : (n len : ℕ) (bytes : List ℕ) (fault : ProtocolFault) → HoldsItems g first after (suc n) bytes → g.Breaks len bytes fault → ⊥
  none_is_broken n len bytes fault p q = lawful.never_both len bytes p.1.0 (first bytes) fault p.1.1 q

-- ---- numbers

pub one_more_times : (n k : ℕ) → n * (k + 1) ≡ n * k + n
one_more_times n k = omega arith
