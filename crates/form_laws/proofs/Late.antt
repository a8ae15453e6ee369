-- The late looks: a call takes no more than its callee's parameters, a `Yield` has its site.
use Prim.Native.Nat.{ℕ, zero, suc, ◌+◌, ◌-◌, ◌≤◌}
use native.Mathlib.Omega.{arith}
use mathlib.Core.Path.{◌≡◌, refl, sym, ap, ◌∙◌}
use mathlib.Core.Bool.{Bool, true, false, cond, ◌&&◌}
use mathlib.Core.List.{List, [], ◌∷◌}
use lib.Dec.{eqb, ltb}
use lib.ListN.{length, get_or}
use borrow.Author.Tests.{eqb-true, eqb-false, eq-eqb, lt-ltb, le-ltb, ltb-true, ltb-false, not-false}
use Rattle.description.specs.Fields.{tag_at, of_tag, instr_of, has_site, param_of}
use Rattle.definition.specs.Module.{Module, Line, line_of, site_of, signed_params, code_after, chunk_from, chunks_from}
use Rattle.definition.specs.Start.{is_site}
use Rattle.definition.specs.Form.{parameters, late_fault, late_look}
use Rattle.masks.proofs.Both.{or_left, or_right}
use Rattle.form_laws.specs.Good.{no_chunk, chunk_no}
use Rattle.form_laws.proofs.Tests.{and-off}
use Rattle.form_laws.proofs.Each.{All, row-length}
use Rattle.ops.specs.Numbers.{op_call, op_yield}

-- every instruction field is looked at
pub late-all : (s params : List ℕ) (c i : ℕ) (ps : List ℕ) → (late_look s params c i ps).number ≡ 0
    → All (λ q. tag_at s q ≡ 3 → late_fault s params q ≡ false) ps
unfolding late_look
late-all s params c i [] h = tt
late-all s params c i (p ∷ ps) h =
    go (eqb (tag_at s p) 2) (eqb (tag_at s p) 3) (late_fault s params p) refl refl refl h (λ c i h. late-all s params c i ps h)
  where
    go : (a b f : Bool) → eqb (tag_at s p) 2 ≡ a → eqb (tag_at s p) 3 ≡ b → late_fault s params p ≡ f
        → (cond a (late_look s params (c + 1) 0 ps)
        (cond b (cond f (record { number = 3; chunk = c - 1; instruction = i; steps = 0 }) (late_look s params c (i + 1) ps)) (late_look s params c i ps))).number ≡ 0
        → ((c i : ℕ) → (late_look s params c i ps).number ≡ 0 → All (λ q. tag_at s q ≡ 3 → late_fault s params q ≡ false) ps)
        → (tag_at s p ≡ 3 → late_fault s params p ≡ false) × All (λ q. tag_at s q ≡ 3 → late_fault s params q ≡ false) ps
    go true b f x y z h below = let e = eqb-true (tag_at s p) 2 x in ((λ k. absurd (omega arith)), below (c + 1) 0 h)
    go false true true x y z h below = absurd (omega arith)
    go false true false x y z h below = ((λ k. z), below c (i + 1) h)
    go false false f x y z h below = ((λ k. absurd (eqb-false (tag_at s p) 3 y k)), below c i h)

-- ---- the parameters of each chunk with a signature
pub chunk-params : (s : List ℕ) (n p : ℕ) (signed : Bool) (code : List Line) → length (chunk_from s n p signed code).params ≡ signed_params s p signed
unfolding chunk_from
chunk-params s n p signed code = row-length (param_of s p) 0 (signed_params s p signed)

pub params_are : (s : List ℕ) (signatures n left : ℕ) (ps : List ℕ) (a : ℕ) → left ≡ signatures - n
    → get_or (parameters s left (of_tag 2 s ps)) a 0 ≡ length (get_or (chunks_from s signatures n ps) a no_chunk).params
unfolding parameters of_tag chunks_from no_chunk
params_are s signatures n left [] a e = refl
params_are s signatures n left (p ∷ ps) a e =
    go (eqb (tag_at s p) 2) a (λ a. params_are s signatures (suc n) (left - 1) ps a (omega arith)) (params_are s signatures n left ps a e)
  where
    signed : (b : Bool) → ltb n signatures ≡ b → ltb 0 left ≡ b
    signed true h = lt-ltb 0 left (omega (arith, ltb-true n signatures h))
    signed false h = le-ltb 0 left (omega (arith, ltb-false n signatures h))

    first : signed_params s p (ltb 0 left) ≡ length (chunk_from s n p (ltb n signatures) (code_after s ps)).params
    first = ap (signed_params s p) (signed (ltb n signatures) refl) ∙ sym (chunk-params s n p (ltb n signatures) (code_after s ps))

    go : (b : Bool) (a : ℕ)
        → ((a : ℕ) → get_or (parameters s (left - 1) (of_tag 2 s ps)) a 0 ≡ length (get_or (chunks_from s signatures (suc n) ps) a no_chunk).params)
        → get_or (parameters s left (of_tag 2 s ps)) a 0 ≡ length (get_or (chunks_from s signatures n ps) a no_chunk).params
        → get_or (parameters s left (cond b (p ∷ of_tag 2 s ps) (of_tag 2 s ps))) a 0
        ≡ length (get_or (cond b (chunk_from s n p (ltb n signatures) (code_after s ps) ∷ chunks_from s signatures (suc n) ps) (chunks_from s signatures n ps)) a no_chunk).params
    go true zero u v = first
    go true (suc a) u v = u a
    go false a u v = v

-- ---- an instruction that both looks passed
pub record Late (m : Module) (x : Line) : Type 0 where
  pub call : x.instr.op ≡ op_call → x.instr.taken ≤ length (chunk_no m x.instr.a).params
  pub yields : x.instr.op ≡ op_yield → is_site x.site ≡ true

has-site : (s : List ℕ) (p : ℕ) → has_site s p ≡ true → is_site (site_of s p) ≡ true
unfolding site_of is_site
has-site s p h = rw h

pub late-line : (m : Module) (s params : List ℕ) (p : ℕ) → ((a : ℕ) → get_or params a 0 ≡ length (chunk_no m a).params) → late_fault s params p ≡ false → Late m (line_of s p)
unfolding late_fault line_of
late-line m s params p k h =
    let i = instr_of s p in
    let calls = eqb i.op op_call && ltb (get_or params i.a 0) i.taken in
    record {
      call = λ e. omega (arith, k i.a, ltb-false (get_or params i.a 0) i.taken (and-off (eqb i.op op_call) _ (or_left calls _ h) (eq-eqb i.op op_call e)));
      yields = λ e. has-site s p (not-false (has_site s p) (and-off (eqb i.op op_yield) _ (or_right calls _ h) (eq-eqb i.op op_yield e)));
    }
