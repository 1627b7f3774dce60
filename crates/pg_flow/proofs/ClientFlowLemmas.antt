-- The Syncs at the front of a queue, by lengths, and where the data of a COPY may end.
use Rattle.std.proofs.Common.{◌≡◌, ℕ, ◌+◌, List, [], ◌∷◌, length, refl, sym, arith, eq-eqb, Bool, true}
use Rattle.std.specs.Prelude.{nat_eq}
use Rattle.std.proofs.lemmas.Bool.Decides.{nat_tests}
use Rattle.pg_flow.specs.declared.request.Request.{Request}
use Rattle.pg_flow.specs.declared.request.Request.TheVariants.{Sync}
use Rattle.pg_flow.specs.declared.place.Place.{Place}
use Rattle.pg_flow.specs.declared.place.Place.TheVariants.{Asked}
use Rattle.pg_flow.specs.ClientFlow.{behind, is_none, lead}
use Rattle.pg_flow.specs.Plain.{is_asked, may_end}

pub lead_length : (q : List Request) → lead q + length (behind q) ≡ length q
lead_length [] = refl
lead_length (Sync ∷ q) = let e : lead q + length (behind q) ≡ length q = lead_length q in omega arith
lead_length (_ ∷ q) = omega arith

pub none_length : (q : List Request) (w : ℕ) → w ≡ length q → is_none q ≡ nat_eq w 0
none_length [] w e = sym (eq-eqb w 0 e)
none_length (r ∷ q) w e = grind (arith, nat_tests)

pub asked_ends : (b : Bool) (place : Place) → is_asked place ≡ true → may_end b place ≡ true
asked_ends b Asked e = refl
asked_ends b _ e = cc
