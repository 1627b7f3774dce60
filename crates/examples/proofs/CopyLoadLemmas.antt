use Rattle.std.proofs.Common.{◌≡◌, ℕ, ◌≤◌, List, [], ◌∷◌, ◌++◌, length, refl, sym, ◌∙◌, ap, subst, append_assoc, append-nil, Result, Ok, Err, OnErr}
use Rattle.pg_message.specs.Message.{Begins, Cut, frame}
use Rattle.examples.specs.CopyLoad.{joined, copy_data, AreWithin, AddsCopyOf, AddsFrontOf}

-- a message begins the same where more bytes follow
pub begins_longer : (bytes more body rest : List ℕ) (tag : ℕ) → Begins bytes tag body rest → Begins (bytes ++ more) tag body (rest ++ more)
begins_longer bytes more body rest tag b = record {
  field = b.field;
  wide = b.wide;
  counts = b.counts;
  fits = b.fits;
  parts = ap (λ (xs : List ℕ). xs ++ more) b.parts ∙ ap (λ (xs : List ℕ). tag ∷ xs) (append_assoc (b.field ++ body) rest more);
}

-- one more CopyData message at the end
pub cut_last : (bytes more body : List ℕ) (bodies : List (List ℕ)) → Cut bytes (copy_data bodies) → Cut more ((100, body) ∷ []) → Cut (bytes ++ more) (copy_data (bodies ++ body ∷ []))
cut_last bytes more body [] e c = subst (λ (xs : List ℕ). Cut (xs ++ more) ((100, body) ∷ [])) (sym e) c
cut_last bytes more body (first ∷ bodies) e c =
    (e.0 ++ more, begins_longer bytes more first e.0 100 e.1, cut_last e.0 more body bodies e.2 c)

pub within_last : (most : ℕ) (body : List ℕ) (bodies : List (List ℕ)) → AreWithin most bodies → length body ≤ most → AreWithin most (bodies ++ body ∷ [])
within_last most body [] h k = (k, tt)
within_last most body (first ∷ bodies) h k = (h.0, within_last most body bodies h.1 k)

pub joined_last : (body : List ℕ) (bodies : List (List ℕ)) → joined (bodies ++ body ∷ []) ≡ joined bodies ++ body
joined_last body [] = append-nil body
joined_last body (first ∷ bodies) = ap (λ (xs : List ℕ). first ++ xs) (joined_last body bodies) ∙ sym (append_assoc first (joined bodies) body)

-- what is added so far is a copy of the rows before the rest
pub record Copied (most : ℕ) (rows rest old new : List ℕ) : Type 0 where
  pub taken : List ℕ
  pub splits : rows ≡ taken ++ rest
  pub copies : AddsCopyOf most taken old new

pub copied_none : (most : ℕ) (rows old : List ℕ) → Copied most rows rows old old
copied_none most rows old = record {
  taken = [];
  splits = refl;
  copies = record { added = []; bodies = []; adds = sym (append-nil old); cut = refl; within = tt; joins = refl };
}

pub copied_part : (most : ℕ) (rows rest old new part after newer : List ℕ) → Copied most rows rest old new → rest ≡ part ++ after → length part ≤ most → newer ≡ new ++ frame 100 part → Cut (frame 100 part) ((100, part) ∷ []) → Copied most rows after old newer
copied_part most rows rest old new part after newer c e k n cut =
    let a = c.copies in
    record {
      taken = c.taken ++ part;
      splits = c.splits ∙ (ap (λ (xs : List ℕ). c.taken ++ xs) e ∙ sym (append_assoc c.taken part after));
      copies = record {
        added = a.added ++ frame 100 part;
        bodies = a.bodies ++ part ∷ [];
        adds = n ∙ (ap (λ (xs : List ℕ). xs ++ frame 100 part) a.adds ∙ append_assoc old a.added (frame 100 part));
        cut = cut_last a.added (frame 100 part) part a.bodies a.cut cut;
        within = within_last most part a.bodies a.within k;
        joins = joined_last part a.bodies ∙ ap (λ (xs : List ℕ). xs ++ part) a.joins;
      };
    }

-- what holds anyway holds where a call is refused
pub on_err_anyway : {A E : Type 0} (result : Result A E) (P : Type 0) → P → OnErr result P
on_err_anyway (Ok x) P p = tt
on_err_anyway (Err e) P p = p

pub copied_front : (most : ℕ) (rows rest old new newer : List ℕ) → Copied most rows rest old new → newer ≡ new → AddsFrontOf most rows old newer
copied_front most rows rest old new newer c e = record {
  front = c.taken;
  rest = rest;
  splits = c.splits;
  copies = subst (AddsCopyOf most c.taken old) (sym e) c.copies;
}
