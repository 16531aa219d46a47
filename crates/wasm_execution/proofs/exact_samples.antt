-- Each exact row on sample operands and bytes.
pub mod Expected
pub mod FloatSamples
pub mod VectorSamples
pub mod ComparisonSamples
pub mod NarrowSamples
pub mod WideSamples
pub mod LaneSamples
pub mod MemorySamples
pub mod ConversionSamples
pub mod SaturationSamples
pub mod FloatLaneSamples
pub mod LaneConversionSamples
