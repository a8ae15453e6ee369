-- The description as values: what `Module` and the dialogue `Plan` are to types.rs, and the size of a handle, which it doesn't have
-- (document 02, Two).
use Rattle.std.specs.Prelude.{ℕ, zero, suc, ◌+◌, ◌/◌, ◌^◌, Bool, cond, List, [], ◌∷◌, map, eqb, ltb}
use Rattle.std.proofs.Math.Option.{Option, none, some}
use Rattle.le.specs.Le.{at8, at16}
use Rattle.masks.specs.declared.Mask.{Mask}
use Rattle.masks.specs.Mask.{constant}
use Rattle.widths.specs.declared.Shape.{Shape}
use Rattle.description.specs.declared.Header.{Header}
use Rattle.description.specs.declared.Instr.{Instr}
use Rattle.description.specs.Fields.{tag_at, fields_from, of_tag, shape_of, header_of, chunk_of, tags_at, param_of, params_of, result_of, instr_of, has_site, yielded_of, reply_of}

-- a dialogue site: the shapes yielded and replied
pub record Site : Type 0 where
  pub yielded : Shape
  pub reply : Shape

-- an instruction with its site
pub record Line : Type 0 where
  pub instr : Instr
  pub site : Option Site

pub record Chunk : Type 0 where
  pub number : ℕ
  pub reachable : Bool
  pub block : ℕ
  pub locals : ℕ
  pub stack : ℕ
  pub arity : ℕ
  pub tags : List ℕ
  pub params : List Shape
  pub result : Shape
  pub code : List Line

pub record Native : Type 0 where
  pub shape : Shape
  pub snapshot : Bool

pub record Module : Type 0 where
  -- the bytes of a float, and of an opaque handle, in a body
  pub float : ℕ
  pub handle : ℕ
  pub entry : ℕ
  pub signatures : ℕ
  pub layout : Bool
  pub slots : ℕ
  pub owns : Bool
  pub chunks : List Chunk
  pub natives : List Native
  -- the kinds of the shared slots, the slots that have a placement, the masks of the initializers
  pub shared : List ℕ
  pub placed : List ℕ
  pub inits : List Mask

abbrev pub flag : ℕ → Bool
flag n = eqb n 1

-- n things, the first at i
unfoldable pub row : {A : Type 0} → (ℕ → A) → ℕ → ℕ → List A
row f i zero = []
row f i (suc n) = f i ∷ row f (suc i) n

unfoldable pub site_of : List ℕ → ℕ → Option Site
site_of s p = cond (has_site s p) (some (record { yielded = yielded_of s p; reply = reply_of s p })) none

unfoldable pub line_of : List ℕ → ℕ → Line
line_of s p = record { instr = instr_of s p; site = site_of s p }

-- the instructions that follow a chunk's field, up to the next chunk
unfoldable pub code_after : List ℕ → List ℕ → List Line
code_after s [] = []
code_after s (p ∷ ps) = cond (eqb (tag_at s p) 2) [] (cond (eqb (tag_at s p) 3) (line_of s p ∷ code_after s ps) (code_after s ps))

-- the parameter shapes of the chunk field at p; a chunk past the signatures has none
unfoldable pub signed_params : List ℕ → ℕ → Bool → ℕ
signed_params s p signed = cond signed (params_of s p) 0

unfoldable pub chunk_from : List ℕ → ℕ → ℕ → Bool → List Line → Chunk
chunk_from s n p signed code =
    record {
      number = n;
      reachable = flag (chunk_of s p).reachable;
      block = (chunk_of s p).block;
      locals = (chunk_of s p).locals;
      stack = (chunk_of s p).stack;
      arity = (chunk_of s p).arity;
      tags = row (λ k. at8 s (tags_at p + k)) 0 (chunk_of s p).tags;
      params = row (param_of s p) 0 (signed_params s p signed);
      result = result_of s p;
      code = code;
    }

-- the chunks among the fields, numbered from n on
unfoldable pub chunks_from : List ℕ → ℕ → ℕ → List ℕ → List Chunk
chunks_from s signatures n [] = []
chunks_from s signatures n (p ∷ ps) =
    cond (eqb (tag_at s p) 2)
    (chunk_from s n p (ltb n signatures) (code_after s ps) ∷ chunks_from s signatures (suc n) ps)
    (chunks_from s signatures n ps)

unfoldable pub native_of : List ℕ → ℕ → Native
native_of s p = record { shape = shape_of s (p + 3); snapshot = flag (at8 s (p + 10)) }

unfoldable pub init_of : List ℕ → ℕ → Mask
init_of s p = constant (at8 s (p + 3)) (flag (at8 s (p + 4)))

unfoldable pub module_from : List ℕ → Header → List ℕ → Module
module_from s h ps =
    record {
      float = 2 ^ h.float / 8;
      handle = h.handle;
      entry = h.entry;
      signatures = h.signatures;
      layout = flag h.layout;
      slots = h.slots;
      owns = flag h.owns;
      chunks = chunks_from s h.signatures 0 ps;
      natives = map (native_of s) (of_tag 5 s ps);
      shared = map (λ p. at8 s (p + 3)) (of_tag 6 s ps);
      placed = map (λ p. at16 s (p + 3)) (of_tag 7 s ps);
      inits = map (init_of s) (of_tag 8 s ps);
    }

-- the module of a description of good form
unfoldable pub module_of : List ℕ → Module
module_of s = module_from s (header_of s 0) (fields_from s 0)
