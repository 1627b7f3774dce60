-- Items of a body are given one by one as places, as far as there is room for them.
use Rattle.std.proofs.Common.{◌≡◌, ℕ, zero, suc, ◌+◌, ◌*◌, ◌<◌, ◌≤◌, pos, Option, Some, List, [], ◌∷◌, ◌++◌, length, map, take, drop, set, refl, sym, ap, ◌∙◌, arith, inr, length-append}
use Rattle.std.proofs.lemmas.List.{length-set, drop-drop, drop-set-lt}
use Rattle.pg_base.specs.declared.error.ProtocolFault.{ProtocolFault}
use Rattle.pg_format.specs.Received.{max_body}
use Rattle.pg_format.specs.Format.{Format, IsFaultOf}
use Rattle.pg_format.specs.Format.Ends.{loosely}
use Rattle.pg_format.specs.Format.Lists.{times, counted_least}
use Rattle.pg_format.specs.Format.Parts.{be_u16}
use Rattle.pg_format.specs.Format.Places.{IsReadAt, BreaksAt}
use Rattle.pg_format.proofs.FormatLaws.Places.{none_at, one_more_at, counted_at, broken_at}
use Rattle.pg_c.specs.Read.{IsBodyFault, AreGiven, GivesItems, GivesFront, ReadsItems}

take-nil : {X : Type 0} (n : ℕ) → take {A = X} n [] ≡ []
take-nil zero = refl
take-nil (suc n) = refl

given_push : {X P : Type 0} (item_at : P → Option X) (places : List P) (items : List X) (place : P) (item : X) → map item_at (take (length items) places) ≡ map Some (take (length places) items)
    → item_at place ≡ Some item → length items < length places → map item_at (take (suc (length items)) (set places (length items) place)) ≡ map Some (take (length places) (items ++ item ∷ []))
given_push {X = X} item_at [] items place item h is lt = absurd (omega (arith, lt))
given_push {X = X} item_at (p ∷ places) [] place item h is lt = rw is (ap (λ (l : List X). Some item ∷ map Some l) (sym (take-nil (length places))))
given_push {X = X} item_at (p ∷ places) (x ∷ items) place item h is lt =
    let first : item_at p ≡ Some x = cc h in
    let others : map item_at (take (length items) places) ≡ map Some (take (length places) items) = cc h in
    rw first (ap (λ (l : List (Option X)). Some x ∷ l) (given_push item_at places items place item others is (omega (arith, lt))))

given_full : {X P : Type 0} (item_at : P → Option X) (places : List P) (items : List X) (item : X) → map item_at (take (length items) places) ≡ map Some (take (length places) items)
    → length places ≤ length items → map item_at (take (suc (length items)) places) ≡ map Some (take (length places) (items ++ item ∷ []))
given_full {X = X} item_at [] items item h le = refl
given_full {X = X} item_at (p ∷ places) [] item h le = absurd (omega (arith, le))
given_full {X = X} item_at (p ∷ places) (x ∷ items) item h le =
    let first : item_at p ≡ Some x = cc h in
    let others : map item_at (take (length items) places) ≡ map Some (take (length places) items) = cc h in
    rw first (ap (λ (l : List (Option X)). Some x ∷ l) (given_full item_at places items item others (omega (arith, le))))

pub none_given : {X P : Type 0} (item_at : P → Option X) (places : List P) → AreGiven item_at [] places places
none_given {X = X} item_at places = record { room = refl; given = ap (λ (l : List X). map Some l) (sym (take-nil (length places))); rest = refl }

pub one_less : {P : Type 0} (index : ℕ) (old new : List P) → drop index new ≡ drop index old → drop (suc index) new ≡ drop (suc index) old
one_less index old new h =
    let next : index + 1 ≡ suc index = omega arith in
    rw (← next) (sym (drop-drop 1 index new) ∙ ap (drop 1) h ∙ drop-drop 1 index old)

-- one more place
pub one_more_given : {X P : Type 0} (item_at : P → Option X) (items : List X) (old new : List P) (place : P) (item : X) → AreGiven item_at items old new
    → item_at place ≡ Some item → length items < length new → AreGiven item_at (items ++ item ∷ []) old (set new (length items) place)
one_more_given item_at items old new place item p is lt =
    let len = length-set new (length items) place in
    let more : length (items ++ item ∷ []) ≡ suc (length items) = omega (arith, length-append items (item ∷ [])) in
    record {
      room = len ∙ p.room;
      given = rw (more, len) (given_push item_at new items place item p.given is lt);
      rest = rw more (drop-set-lt (suc (length items)) new (length items) place (omega arith) ∙ one_less (length items) old new p.rest);
    }

-- no room for one more
pub no_more_given : {X P : Type 0} (item_at : P → Option X) (items : List X) (old new : List P) (item : X) → AreGiven item_at items old new
    → length new ≤ length items → AreGiven item_at (items ++ item ∷ []) old new
no_more_given item_at items old new item p le =
    let more : length (items ++ item ∷ []) ≡ suc (length items) = omega (arith, length-append items (item ∷ [])) in
    record {
      room = p.room;
      given = rw more (given_full item_at new items item p.given le);
      rest = rw more (one_less (length items) old new p.rest);
    }

pub gives_none : {X P : Type 0} (g : Format X) (item_at : P → Option X) (body : List ℕ) (first : ℕ) (places : List P) → first ≤ length body → GivesItems g item_at body first first 0 places places
gives_none g item_at body first places within = record { items = []; read = none_at g body first within; given = none_given item_at places }

pub gives_more : {X P : Type 0} (g : Format X) (item_at : P → Option X) (body : List ℕ) (first at end index : ℕ) (old new : List P) (place : P) (item : X)
    → GivesItems g item_at body first at index old new → item_at place ≡ Some item → IsReadAt g body at item end → index < length new → GivesItems g item_at body first end (index + 1) old (set new index place)
gives_more g item_at body first at end index old new place item p is q lt = record {
  items = p.items ++ item ∷ [];
  read = one_more_at g body index first at end p.items item p.read q;
  given = rw (← p.read.reads.0) (one_more_given item_at p.items old new place item p.given is (omega (arith, lt, p.read.reads.0)));
}

pub gives_full : {X P : Type 0} (g : Format X) (item_at : P → Option X) (body : List ℕ) (first at end index : ℕ) (old new : List P) (item : X)
    → GivesItems g item_at body first at index old new → IsReadAt g body at item end → length new ≤ index → GivesItems g item_at body first end (index + 1) old new
gives_full g item_at body first at end index old new item p q le = record {
  items = p.items ++ item ∷ [];
  read = one_more_at g body index first at end p.items item p.read q;
  given = no_more_given item_at p.items old new item p.given (omega (arith, le, p.read.reads.0));
}

pub reads_items : {X P : Type 0} (g : Format X) (least : ℕ) (item_at : P → Option X) (body : List ℕ) (n at index : ℕ) (old new : List P)
    → be_u16.Reads body n (drop 2 body) → index ≡ n → GivesItems g item_at body 2 at index old new → ReadsItems (loosely (counted_least least g)) item_at body old new (pos n)
reads_items g least item_at body n at index old new counted all p =
    let read : IsReadAt (times n g) body 2 p.items at = rw all at p.read in
    record {
      items = p.items;
      means = counted_at g least body n at p.items counted read;
      count = ap pos (sym read.reads.0);
      given = p.given;
    }

-- those before a fault
pub gives_front : {X P : Type 0} (g : Format X) (item_at : P → Option X) (body : List ℕ) (first at index : ℕ) (old new : List P) → GivesItems g item_at body first at index old new → GivesFront g item_at body first old new
gives_front g item_at body first at index old new p = inr (index, at, p)

-- an item that can't be read
pub item_breaks : {X P : Type 0} (g : Format X) (least : ℕ) (item_at : P → Option X) (body : List ℕ) (n at index : ℕ) (old new : List P) (fault : ProtocolFault) → length body ≤ max_body → be_u16.Reads body n (drop 2 body)
    → 2 + least * n ≤ length body → index < n → GivesItems g item_at body 2 at index old new → BreaksAt g body at fault → IsBodyFault (IsFaultOf (loosely (counted_least least g))) body fault
item_breaks g least item_at body n at index old new fault short counted holds fewer p breaks = inr (short, broken_at g least body n index at p.items fault counted holds p.read fewer breaks)
