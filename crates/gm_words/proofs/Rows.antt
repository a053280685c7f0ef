-- The jobs of command lines that are written out, as their definition computes them.
use Rattle.std.proofs.Common.{◌≡◌, [], ◌∷◌, true, false, Some, None, refl, codes}
use Rattle.gm_partition.specs.declared.Owner.TheVariants.{Mod, Block, Spread}
use Rattle.gm_words.specs.declared.jobs.Format.TheVariants.{Edges, Mtx}
use Rattle.gm_words.specs.declared.jobs.Job.TheVariants as job
use Rattle.gm_words.specs.Words.{given_after}
use Rattle.gm_words.specs.Jobs.{job_of}

-- run a.gm g.txt
row1 : job_of (codes "run" ∷ codes "a.gm" ∷ codes "g.txt" ∷ []) ≡ Some (job.Run (codes "a.gm") (codes "g.txt") ([]) (record { workers = 4; owner = Mod; turns = 1000000; observe = false; format = Edges }) false)
unfolding given_after
row1 = refl

-- run --workers 8 a.gm g.txt k=3 root=0
row2 : job_of (codes "run" ∷ codes "--workers" ∷ codes "8" ∷ codes "a.gm" ∷ codes "g.txt" ∷ codes "k=3" ∷ codes "root=0" ∷ []) ≡ Some (job.Run (codes "a.gm") (codes "g.txt") (codes "k=3" ∷ codes "root=0" ∷ []) (record { workers = 8; owner = Mod; turns = 1000000; observe = false; format = Edges }) false)
unfolding given_after
row2 = refl

-- run a.gm --workers=8 g.txt --partition=block
row3 : job_of (codes "run" ∷ codes "a.gm" ∷ codes "--workers=8" ∷ codes "g.txt" ∷ codes "--partition=block" ∷ []) ≡ Some (job.Run (codes "a.gm") (codes "g.txt") ([]) (record { workers = 8; owner = Block; turns = 1000000; observe = false; format = Edges }) false)
unfolding given_after
row3 = refl

-- run a.gm g.txt --partition spread:7 --turns 5
row4 : job_of (codes "run" ∷ codes "a.gm" ∷ codes "g.txt" ∷ codes "--partition" ∷ codes "spread:7" ∷ codes "--turns" ∷ codes "5" ∷ []) ≡ Some (job.Run (codes "a.gm") (codes "g.txt") ([]) (record { workers = 4; owner = Spread 7; turns = 5; observe = false; format = Edges }) false)
unfolding given_after
row4 = refl

-- run a.gm g.txt --observe --image
row5 : job_of (codes "run" ∷ codes "a.gm" ∷ codes "g.txt" ∷ codes "--observe" ∷ codes "--image" ∷ []) ≡ Some (job.Run (codes "a.gm") (codes "g.txt") ([]) (record { workers = 4; owner = Mod; turns = 1000000; observe = true; format = Edges }) true)
unfolding given_after
row5 = refl

-- run a.gm g.txt --image
row6 : job_of (codes "run" ∷ codes "a.gm" ∷ codes "g.txt" ∷ codes "--image" ∷ []) ≡ Some (job.Run (codes "a.gm") (codes "g.txt") ([]) (record { workers = 4; owner = Mod; turns = 1000000; observe = false; format = Edges }) true)
unfolding given_after
row6 = refl

-- run a.gm g.txt --observe
row7 : job_of (codes "run" ∷ codes "a.gm" ∷ codes "g.txt" ∷ codes "--observe" ∷ []) ≡ None
unfolding given_after
row7 = refl

-- run - - x=-1
row8 : job_of (codes "run" ∷ codes "-" ∷ codes "-" ∷ codes "x=-1" ∷ []) ≡ Some (job.Run (codes "-") (codes "-") (codes "x=-1" ∷ []) (record { workers = 4; owner = Mod; turns = 1000000; observe = false; format = Edges }) false)
unfolding given_after
row8 = refl

-- run -- --a -b -- c=1
row9 : job_of (codes "run" ∷ codes "--" ∷ codes "--a" ∷ codes "-b" ∷ codes "--" ∷ codes "c=1" ∷ []) ≡ None
unfolding given_after
row9 = refl

-- run -- --a -b c=1
row10 : job_of (codes "run" ∷ codes "--" ∷ codes "--a" ∷ codes "-b" ∷ codes "c=1" ∷ []) ≡ Some (job.Run (codes "--a") (codes "-b") (codes "c=1" ∷ []) (record { workers = 4; owner = Mod; turns = 1000000; observe = false; format = Edges }) false)
unfolding given_after
row10 = refl

-- run a.gm -- --image
row11 : job_of (codes "run" ∷ codes "a.gm" ∷ codes "--" ∷ codes "--image" ∷ []) ≡ Some (job.Run (codes "a.gm") (codes "--image") ([]) (record { workers = 4; owner = Mod; turns = 1000000; observe = false; format = Edges }) false)
unfolding given_after
row11 = refl

-- run a.gm
row12 : job_of (codes "run" ∷ codes "a.gm" ∷ []) ≡ None
unfolding given_after
row12 = refl

-- run a.gm g.txt x
row13 : job_of (codes "run" ∷ codes "a.gm" ∷ codes "g.txt" ∷ codes "x" ∷ []) ≡ None
unfolding given_after
row13 = refl

-- run a.gm g.txt =x
row14 : job_of (codes "run" ∷ codes "a.gm" ∷ codes "g.txt" ∷ codes "=x" ∷ []) ≡ None
unfolding given_after
row14 = refl

-- run a.gm g.txt =a=b
row15 : job_of (codes "run" ∷ codes "a.gm" ∷ codes "g.txt" ∷ codes "=a=b" ∷ []) ≡ Some (job.Run (codes "a.gm") (codes "g.txt") (codes "=a=b" ∷ []) (record { workers = 4; owner = Mod; turns = 1000000; observe = false; format = Edges }) false)
unfolding given_after
row15 = refl

-- run a.gm g.txt --workers 0
row16 : job_of (codes "run" ∷ codes "a.gm" ∷ codes "g.txt" ∷ codes "--workers" ∷ codes "0" ∷ []) ≡ None
unfolding given_after
row16 = refl

-- run a.gm g.txt --workers 65
row17 : job_of (codes "run" ∷ codes "a.gm" ∷ codes "g.txt" ∷ codes "--workers" ∷ codes "65" ∷ []) ≡ None
unfolding given_after
row17 = refl

-- run a.gm g.txt --workers 64
row18 : job_of (codes "run" ∷ codes "a.gm" ∷ codes "g.txt" ∷ codes "--workers" ∷ codes "64" ∷ []) ≡ Some (job.Run (codes "a.gm") (codes "g.txt") ([]) (record { workers = 64; owner = Mod; turns = 1000000; observe = false; format = Edges }) false)
unfolding given_after
row18 = refl

-- run a.gm g.txt --workers=
row19 : job_of (codes "run" ∷ codes "a.gm" ∷ codes "g.txt" ∷ codes "--workers=" ∷ []) ≡ None
unfolding given_after
row19 = refl

-- run a.gm g.txt --workers
row20 : job_of (codes "run" ∷ codes "a.gm" ∷ codes "g.txt" ∷ codes "--workers" ∷ []) ≡ None
unfolding given_after
row20 = refl

-- run a.gm g.txt --workers -
row21 : job_of (codes "run" ∷ codes "a.gm" ∷ codes "g.txt" ∷ codes "--workers" ∷ codes "-" ∷ []) ≡ None
unfolding given_after
row21 = refl

-- run a.gm g.txt --workers --image
row22 : job_of (codes "run" ∷ codes "a.gm" ∷ codes "g.txt" ∷ codes "--workers" ∷ codes "--image" ∷ []) ≡ None
unfolding given_after
row22 = refl

-- run a.gm g.txt --workers 4 --workers 4
row23 : job_of (codes "run" ∷ codes "a.gm" ∷ codes "g.txt" ∷ codes "--workers" ∷ codes "4" ∷ codes "--workers" ∷ codes "4" ∷ []) ≡ None
unfolding given_after
row23 = refl

-- run a.gm g.txt --image --image
row24 : job_of (codes "run" ∷ codes "a.gm" ∷ codes "g.txt" ∷ codes "--image" ∷ codes "--image" ∷ []) ≡ None
unfolding given_after
row24 = refl

-- run a.gm g.txt --image=yes
row25 : job_of (codes "run" ∷ codes "a.gm" ∷ codes "g.txt" ∷ codes "--image=yes" ∷ []) ≡ None
unfolding given_after
row25 = refl

-- run a.gm g.txt --image=
row26 : job_of (codes "run" ∷ codes "a.gm" ∷ codes "g.txt" ∷ codes "--image=" ∷ []) ≡ None
unfolding given_after
row26 = refl

-- run a.gm g.txt --worker 4
row27 : job_of (codes "run" ∷ codes "a.gm" ∷ codes "g.txt" ∷ codes "--worker" ∷ codes "4" ∷ []) ≡ None
unfolding given_after
row27 = refl

-- run a.gm g.txt -w 4
row28 : job_of (codes "run" ∷ codes "a.gm" ∷ codes "g.txt" ∷ codes "-w" ∷ codes "4" ∷ []) ≡ None
unfolding given_after
row28 = refl

-- run a.gm g.txt --help
row29 : job_of (codes "run" ∷ codes "a.gm" ∷ codes "g.txt" ∷ codes "--help" ∷ []) ≡ None
unfolding given_after
row29 = refl

-- run a.gm g.txt --=x
row30 : job_of (codes "run" ∷ codes "a.gm" ∷ codes "g.txt" ∷ codes "--=x" ∷ []) ≡ None
unfolding given_after
row30 = refl

-- run a.gm g.txt --turns 9223372036854775807
row31 : job_of (codes "run" ∷ codes "a.gm" ∷ codes "g.txt" ∷ codes "--turns" ∷ codes "9223372036854775807" ∷ []) ≡ Some (job.Run (codes "a.gm") (codes "g.txt") ([]) (record { workers = 4; owner = Mod; turns = 9223372036854775807; observe = false; format = Edges }) false)
unfolding given_after
row31 = refl

-- run a.gm g.txt --turns 9223372036854775808
row32 : job_of (codes "run" ∷ codes "a.gm" ∷ codes "g.txt" ∷ codes "--turns" ∷ codes "9223372036854775808" ∷ []) ≡ None
unfolding given_after
row32 = refl

-- run a.gm g.txt --turns 0000000000000000001
row33 : job_of (codes "run" ∷ codes "a.gm" ∷ codes "g.txt" ∷ codes "--turns" ∷ codes "0000000000000000001" ∷ []) ≡ Some (job.Run (codes "a.gm") (codes "g.txt") ([]) (record { workers = 4; owner = Mod; turns = 1; observe = false; format = Edges }) false)
unfolding given_after
row33 = refl

-- run a.gm g.txt --turns 00000000000000000001
row34 : job_of (codes "run" ∷ codes "a.gm" ∷ codes "g.txt" ∷ codes "--turns" ∷ codes "00000000000000000001" ∷ []) ≡ None
unfolding given_after
row34 = refl

-- run a.gm g.txt --turns +1
row35 : job_of (codes "run" ∷ codes "a.gm" ∷ codes "g.txt" ∷ codes "--turns" ∷ codes "+1" ∷ []) ≡ None
unfolding given_after
row35 = refl

-- run a.gm g.txt --partition spread:4294967296
row36 : job_of (codes "run" ∷ codes "a.gm" ∷ codes "g.txt" ∷ codes "--partition" ∷ codes "spread:4294967296" ∷ []) ≡ None
unfolding given_after
row36 = refl

-- run a.gm g.txt --partition spread:
row37 : job_of (codes "run" ∷ codes "a.gm" ∷ codes "g.txt" ∷ codes "--partition" ∷ codes "spread:" ∷ []) ≡ None
unfolding given_after
row37 = refl

-- run a.gm g.txt --partition Mod
row38 : job_of (codes "run" ∷ codes "a.gm" ∷ codes "g.txt" ∷ codes "--partition" ∷ codes "Mod" ∷ []) ≡ None
unfolding given_after
row38 = refl

-- check a.gm
row39 : job_of (codes "check" ∷ codes "a.gm" ∷ []) ≡ Some (job.Check (codes "a.gm"))
unfolding given_after
row39 = refl

-- check -
row40 : job_of (codes "check" ∷ codes "-" ∷ []) ≡ Some (job.Check (codes "-"))
unfolding given_after
row40 = refl

-- check a.gm --image
row41 : job_of (codes "check" ∷ codes "a.gm" ∷ codes "--image" ∷ []) ≡ None
unfolding given_after
row41 = refl

-- check
row42 : job_of (codes "check" ∷ []) ≡ None
unfolding given_after
row42 = refl

-- check a b
row43 : job_of (codes "check" ∷ codes "a" ∷ codes "b" ∷ []) ≡ None
unfolding given_after
row43 = refl

-- check -- -x
row44 : job_of (codes "check" ∷ codes "--" ∷ codes "-x" ∷ []) ≡ Some (job.Check (codes "-x"))
unfolding given_after
row44 = refl

-- compile a.gm
row45 : job_of (codes "compile" ∷ codes "a.gm" ∷ []) ≡ Some (job.Compile (codes "a.gm"))
unfolding given_after
row45 = refl

-- exec i.img g.txt x=1 --observe
row46 : job_of (codes "exec" ∷ codes "i.img" ∷ codes "g.txt" ∷ codes "x=1" ∷ codes "--observe" ∷ []) ≡ Some (job.Exec (codes "i.img") (codes "g.txt") (codes "x=1" ∷ []) (record { workers = 4; owner = Mod; turns = 1000000; observe = true; format = Edges }))
unfolding given_after
row46 = refl

-- exec i.img g.txt --image
row47 : job_of (codes "exec" ∷ codes "i.img" ∷ codes "g.txt" ∷ codes "--image" ∷ []) ≡ None
unfolding given_after
row47 = refl

-- demo 10 --workers 2
row48 : job_of (codes "demo" ∷ codes "10" ∷ codes "--workers" ∷ codes "2" ∷ []) ≡ Some (job.Demo 10 (record { workers = 2; owner = Mod; turns = 1000000; observe = false; format = Edges }))
unfolding given_after
row48 = refl

-- demo 0
row49 : job_of (codes "demo" ∷ codes "0" ∷ []) ≡ None
unfolding given_after
row49 = refl

-- demo 1000000
row50 : job_of (codes "demo" ∷ codes "1000000" ∷ []) ≡ Some (job.Demo 1000000 (record { workers = 4; owner = Mod; turns = 1000000; observe = false; format = Edges }))
unfolding given_after
row50 = refl

-- demo 1000001
row51 : job_of (codes "demo" ∷ codes "1000001" ∷ []) ≡ None
unfolding given_after
row51 = refl

-- demo 10 --turns 5
row52 : job_of (codes "demo" ∷ codes "10" ∷ codes "--turns" ∷ codes "5" ∷ []) ≡ None
unfolding given_after
row52 = refl

-- no words
row53 : job_of ([]) ≡ None
unfolding given_after
row53 = refl

-- Run a.gm g.txt
row54 : job_of (codes "Run" ∷ codes "a.gm" ∷ codes "g.txt" ∷ []) ≡ None
unfolding given_after
row54 = refl

-- --image run a.gm g.txt
row55 : job_of (codes "--image" ∷ codes "run" ∷ codes "a.gm" ∷ codes "g.txt" ∷ []) ≡ None
unfolding given_after
row55 = refl

-- run a.gm g.mtx --format mtx
row56 : job_of (codes "run" ∷ codes "a.gm" ∷ codes "g.mtx" ∷ codes "--format" ∷ codes "mtx" ∷ []) ≡ Some (job.Run (codes "a.gm") (codes "g.mtx") ([]) (record { workers = 4; owner = Mod; turns = 1000000; observe = false; format = Mtx }) false)
unfolding given_after
row56 = refl

-- exec a.img g.txt --format=edges
row57 : job_of (codes "exec" ∷ codes "a.img" ∷ codes "g.txt" ∷ codes "--format=edges" ∷ []) ≡ Some (job.Exec (codes "a.img") (codes "g.txt") ([]) (record { workers = 4; owner = Mod; turns = 1000000; observe = false; format = Edges }))
unfolding given_after
row57 = refl

-- run a.gm g.mtx --format MTX
row58 : job_of (codes "run" ∷ codes "a.gm" ∷ codes "g.mtx" ∷ codes "--format" ∷ codes "MTX" ∷ []) ≡ None
unfolding given_after
row58 = refl

-- demo 10 --format mtx
row59 : job_of (codes "demo" ∷ codes "10" ∷ codes "--format" ∷ codes "mtx" ∷ []) ≡ None
unfolding given_after
row59 = refl
