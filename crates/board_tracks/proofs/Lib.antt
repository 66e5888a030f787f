pub mod LayersKind
