-- 02, Q-4, as C gets it: what a walk yields, a struct of six numbers, and the answer of a call by virtual address, which "names that guest
-- address too".
use Rattle.std.specs.Prelude.{◌≡◌, Bool, List, ℕ, eqb}
use Rattle.words.specs.Choice.{pick, ◌or◌}
use Rattle.rules.specs.Answers.{Told, refused, done}
use Rattle.rules.specs.State.{state}
use Rattle.paging.specs.Walk.{Walked, reaches, stops, Mapping, mapping}
use Rattle.requests.specs.Requests.{Reply, tells, hands, names, maps, named, Response, response}
use Rattle.flat.specs.Flat.{DONE, OPENED, ALREADY, WORD, flat, Returned, says}
use Rattle.flat.specs.declared.Flat.{Flat}
use Rattle.flat.specs.declared.virtual_address.FlatMapping.{FlatMapping}

-- ---- the walk: the refusal's number and reason, and 0; or 0, and what it yields
abbrev pub mapping_numbers : ℕ → ℕ → ℕ → ℕ → ℕ → ℕ → FlatMapping
mapping_numbers refusal reason gpa hpa gtype ntype =
    record { refusal = refusal; reason = reason; gpa = gpa; hpa = hpa; gtype = gtype; ntype = ntype }

unfoldable pub flat_mapping : Walked Mapping → FlatMapping
flat_mapping (reaches m) = mapping_numbers 0 0 m.gpa m.hpa m.gtype m.ntype
flat_mapping (stops refusal) = mapping_numbers refusal.number refusal.reason 0 0 0 0

-- what it says
unfoldable pub says_mapping : FlatMapping → Reply
says_mapping r =
    pick (eqb r.refusal 0)
    (maps (mapping r.gpa r.hpa r.gtype r.ntype))
    (tells (refused (record { number = r.refusal; reason = r.reason })))

-- ---- the calls: the answer, with the guest address in its field. (No such call hands back a part of memory or a mapping.)
abbrev pub naming : ℕ → Flat → Flat
naming gpa r = record { refusal = r.refusal; kind = r.kind; asid = r.asid; gpa = gpa; value = r.value; reason = r.reason }

unfoldable pub flat_reply : Reply → Flat
flat_reply (tells told) = flat told
flat_reply (names gpa told) = naming gpa (flat told)
flat_reply (hands part) = flat done
flat_reply (maps m) = flat done

-- the four answers of an accepted PVALIDATE, READ or WRITE; an answer with the address, where it is one of them
unfoldable pub may_name : ℕ → Bool
may_name kind = eqb kind OPENED or eqb kind ALREADY or eqb kind WORD or eqb kind DONE

unfoldable pub name_in : ℕ → Flat → Flat
name_in gpa r = pick (may_name r.kind) (naming gpa r) r

-- that is the reply that `named` has, flattened
abbrev pub NameIsNamed : Type 0
NameIsNamed = (gpa : ℕ) (told : Told) → name_in gpa (flat told) ≡ flat_reply (named gpa told)

-- what is said by it; and that this is the reply that was flattened
unfoldable pub says_named : Flat → Reply
says_named r = pick (may_name r.kind) (names r.gpa (says r)) (tells (says r))

abbrev pub NamedSays : Type 0
NamedSays = (gpa : ℕ) (told : Told) → says_named (flat_reply (named gpa told)) ≡ named gpa told

-- ---- with the table and memory that were left
unfoldable pub flattened_reply : Response → Returned
flattened_reply r = record { answer = flat_reply r.reply; after = r.after }

abbrev pub said_named : Flat → List ℕ → List ℕ → Response
said_named r table memory = response (says_named r) (state table memory)

abbrev pub said_mapping : FlatMapping → List ℕ → List ℕ → Response
said_mapping r table memory = response (says_mapping r) (state table memory)
